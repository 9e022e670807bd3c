use Rattle.std.specs.Prelude.{◌<◌, ◌≤◌}
use Rattle.cborn_wire.proofs.Common.{length, subst, arith, no_part}
use Rattle.cborn_wire.proofs.Visiting.Runs.{integers_taken, integers_some, in_array, has_room}
use Rattle.cborn_wire.proofs.leaves.take_integers.Goals as goal

pub returns-clause-taken : goal.returns-clause-taken
returns-clause-taken g c =
    let x = c.args.bytes.now in
    let k = c.integers_at-run.result.count in
    let n = c.integers_at-run.result.len in
    let (ts, are, many) = c.integers_at-run.ensures.integers c.args.place in
    let whole : n ≤ length x = c.integers_at-run.ensures.len in
    let some : 0 < k = omega (arith, c.if-run-lt2.false) in (
      integers_some c.args.place n x ts whole are (omega (arith, many, some)),
      whole,
      λ f around held kept takes.
          let in_it = in_array f around c.args.level kept.0 c.requires in
          integers_taken (λ h. g.V.Visitor.holds c.integers.new.self h no_part) around c.args.place n k f c.args.level x ts whole some c.requires kept takes are many (has_room c.args.level k c.requires (subst (λ r. k ≤ r) c.room.ensures c.integers_at-run.ensures.most))
          (c.in_ok-integers.ensures.taken c.if-not-branch.false f ts (kept.1, takes) in_it are many held),
    )
