use Rattle.std.specs.Prelude.{◌∷◌}
use Rattle.cborn_judge.proofs.Common.{[], subst, top, no_part, IsHeld}
use Rattle.cborn_judge.proofs.FirstDefect.{alone, flawed_alone}
use Rattle.cborn_judge.proofs.Encoding.Ends.{one_encoded}
use Rattle.cborn_judge.proofs.judgments.encode.Goals as goal

pub returns-in-Ok-clause-encoded : goal.returns-in-Ok-clause-encoded
returns-in-Ok-clause-encoded g c =
    let order = g.O.KeyOrder.order in
    let t = c.args.spelled.now in
    let held = subst (λ x. IsHeld order c.visit_node.new.visitor (top (x ∷ [])) no_part) c.node.ensures.same (c.in_ok-visit_node.ensures.held (top []) (tt, tt) c.new-encoder.ensures) in
    one_encoded order t c.in-Ok.encoded.bytes.items (c.in-Ok.ensures.encoded (t ∷ []) held)

pub returns-in-Ok-clause-defect : goal.returns-in-Ok-clause-defect
returns-in-Ok-clause-defect g c =
    let order = g.O.KeyOrder.order in
    let t = c.args.spelled.now in
    let held = subst (λ x. IsHeld order c.visit_node.new.visitor (top (x ∷ [])) no_part) c.node.ensures.same (c.in_ok-visit_node.ensures.held (top []) (tt, tt) c.new-encoder.ensures) in
    alone order t c.in-Ok.encoded.defect (c.in-Ok.ensures.defect (t ∷ []) held)

pub returns-in-Err-clause-refused : goal.returns-in-Err-clause-refused
returns-in-Err-clause-refused g c =
    let t = c.args.spelled.now in
    let held = subst (λ x. IsHeld g.O.KeyOrder.order c.visit_node.new.visitor (top (x ∷ [])) no_part) c.node.ensures.same (c.in_ok-visit_node.ensures.held (top []) (tt, tt) c.new-encoder.ensures) in
    flawed_alone t c.in-Err.place c.in-Err.reason (c.in-Err.ensures.flawed (t ∷ []) held)
