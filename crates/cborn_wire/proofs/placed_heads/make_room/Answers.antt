use Rattle.std.specs.Prelude.{◌-◌, ◌≡◌, ◌+◌}
use Rattle.cborn_wire.proofs.Common.{arith, ◌∙◌}
use Rattle.cborn_wire.proofs.Shifting.{moved}
use Rattle.cborn_wire.proofs.placed_heads.make_room.Goals as goal

pub blocks-2-preserved : goal.blocks-2-preserved
blocks-2-preserved c =
    let b = c.blocks-2 in
    let whole : b.end ≡ b.end - 256 + 256 = omega (arith, c.blocks-2-test.true) in
    let m = moved c.args.out.now.items b.out.items c.move_block.new.out.items (b.end - 256) 256 b.end c.args.more whole b.invariant.before b.invariant.after c.move_block.ensures.before c.move_block.ensures.after in
    record {
      least = omega (arith, c.blocks-2-test.true);
      most = omega (arith, b.invariant.most);
      size = c.move_block.ensures.len ∙ b.invariant.size;
      before = m.0;
      after = m.1;
    }

pub returns-clause-after : goal.returns-clause-after
returns-clause-after c =
    let b = c.blocks-2 in
    let whole : b.end ≡ c.args.from + (b.end - c.args.from) = omega (arith, b.invariant.least) in
    (moved c.args.out.now.items b.out.items c.move_block-2.new.out.items c.args.from (b.end - c.args.from) b.end c.args.more whole b.invariant.before b.invariant.after c.move_block-2.ensures.before c.move_block-2.ensures.after).1
