use Rattle.std.specs.Prelude.{◌≡◌, ◌^◌}
use Rattle.cborn_edn.proofs.Common.{true, arith, lt-ltb, le-ltb, is_small, argument_of}
use Rattle.cborn_edn.proofs.Lemmas.{number_fits, hands_integer, hands_bignum, leaf_shown, on_ok, all_ok}
use Rattle.cborn_edn.proofs.numbers.put_number.Goals as goal

pub returns-then-argument-ge-OUTSIDE : goal.returns-then-argument-ge-OUTSIDE
returns-then-argument-ge-OUTSIDE g c = grind (arith, all_ok, hands_bignum, le-ltb, leaf_shown)

pub hand-requires : goal.hand-requires
hand-requires g c = λ none.
    let n = c.args.numeral in
    let small : is_small n.negative n.magnitude ≡ true = lt-ltb (argument_of n.negative n.magnitude) (2 ^ 64) (omega (arith, c.if-argument-ge-OUTSIDE.false, c.argument_of-argument.ensures)) in
    rw (c.width_for-width.ensures, c.argument_of-argument.ensures) (number_fits c.args.writer.now.error c.note_number.new.error none c.args.place n.negative n.magnitude n.mark small c.note_number.ensures)

pub returns : goal.returns
returns g c = grind (arith, hands_integer, leaf_shown, lt-ltb, on_ok)
