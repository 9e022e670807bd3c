use Rattle.std.specs.Prelude.{◌≡◌, ◌/◌, ◌%◌}
use Rattle.cborn_wire.proofs.Common.{refl, sym, ap, ◌∙◌, leb, length, false, [], arith, lt-leb, not-true, Level, major_at, info_at, head_reason, slot_of, is_chunks}
use Rattle.cborn_wire.proofs.Visiting.Leaves.{plain_kind}
use Rattle.cborn_wire.proofs.Visiting.Taking.{reason_same}
use Rattle.cborn_wire.proofs.counting.is_allowed.Goals as goal

pub returns-clause-free : goal.returns-clause-free
returns-clause-free g c = λ yes f are inside.
    let l = c.args.levels.now in
    let m = major_at (c.args.first / 32) in
    let i = info_at (c.args.first % 32) in
    let chunks : is_chunks (g.L.Levels.inner l).kind ≡ false = ap (λ (k : Level). is_chunks k.kind) (sym c.innermost.ensures) ∙ sym c.is_chunks.ensures ∙ not-true c.is_chunks.result yes in
    let full : leb c.args.limit (length (g.L.Levels.outer l)) ≡ false = lt-leb c.args.limit (length (g.L.Levels.outer l)) (omega (arith, c.if-count-limit.false, c.count.ensures)) in
    sym (ap (λ b. head_reason (slot_of (g.L.Levels.inner l).kind (g.L.Levels.inner l).missing) b m i []) full ∙ c.if-not-is_plain.ensures.free refl (slot_of (g.L.Levels.inner l).kind (g.L.Levels.inner l).missing) (plain_kind (g.L.Levels.inner l).kind (g.L.Levels.inner l).missing chunks))
    ∙ reason_same c.args.limit f (g.L.Levels.outer l) (g.L.Levels.inner l) m i are inside
