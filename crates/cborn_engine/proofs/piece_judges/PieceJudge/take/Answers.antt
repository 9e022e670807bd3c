use Rattle.std.specs.Prelude.{◌≡◌, ◌++◌}
use Rattle.cborn_engine.proofs.Common.{rules, None, Err, ◌∙◌, subst, arith, Refused, bytes-append, are_bytes, IsHeld, refused, HasJudged}
use Rattle.cborn_wire.specs.shared.Visiting.{Reads}
use Rattle.cborn_engine.proofs.piece_judges.PieceJudge.take.Goals as goal

pub returns-in_ok-fault_in-in-Err : goal.returns-in_ok-fault_in-in-Err
returns-in_ok-fault_in-in-Err g c limit x h =
    let order = g.O.KeyOrder.order in
    let piece = c.args.piece.now in
    let none : c.args.self.now.fault ≡ None = search rules in
    let fed = (subst (HasJudged (IsHeld order) c.args.self.now x) none h.1).0 in
    let heads = c.read-read.new.self in
    let levels = c.read-read.new.levels in
    let holds = IsHeld order c.read-read.new.visitor in
    let (place, reason) = c.in_ok-fault_in-in-Err.field-0 in
    let reads = subst (λ why. Reads holds levels.outer.items levels.inner heads 0 x piece (Err why)) c.in_ok-fault_in-in-Err.ensures (c.in-Err.ensures.fed 0 x fed) in
    let (q, at, fault) = refused holds levels.outer.items levels.inner heads 0 x piece place reason (bytes-append x piece fed.0 (are_bytes piece c.type_inv.piece)) reads in
    (c.read-read.ensures.limit ∙ h.0, subst (λ p. Refused heads.limit (x ++ piece) p reason) (omega (arith, at)) fault)
