use Rattle.std.specs.Prelude.{◌≡◌, ◌++◌}
use Rattle.cborn_edn.proofs.Common.{sym, subst, arith, take_rest, length-take, encode_lower}
use Rattle.cborn_edn.proofs.Lexed.HexTexts.{hex_on}
use Rattle.cborn_edn.proofs.writing.push_hex.Goals as goal

pub loop-rest-preserved : goal.loop-rest-preserved
loop-rest-preserved c =
    let old = c.args.out.now.items ++ encode_lower c.args.bytes.now in
    subst (λ r. old ≡ c.push_some_hex.new.out.items ++ encode_lower r) (sym (take_rest c.loop-rest.rest.now 32)) (hex_on old c.loop-rest.out.items c.push_some_hex.new.out.items c.loop-rest.rest.now 32 c.loop-rest.invariant c.in_ok-push_some_hex.ensures)

pub slice_bounds-push_some_hex-end : goal.slice_bounds-push_some_hex-end
slice_bounds-push_some_hex-end c = omega (arith, length-take 32 c.loop-rest.rest.now, c.loop-rest-test.true)

pub push_some_hex-requires : goal.push_some_hex-requires
push_some_hex-requires c = omega (arith, length-take 32 c.loop-rest.rest.now)
