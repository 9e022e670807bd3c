use Rattle.cborn_wire.proofs.Common.{sym, ◌∙◌, err_from_is_err_and, no_part, ready, open_in, state, arith, common_steps, nat_tests}
use Rattle.cborn_wire.proofs.HeadReading.HeadSteps.{second_refused, head_taken}
use Rattle.cborn_wire.proofs.Machine.WholeFront.{one_more_head}
use Rattle.cborn_wire.proofs.Visiting.Taking.{fails_on, short_taken, stands_here, first_next, short_next}
use Rattle.cborn_wire.proofs.head_readers.HeadReader.take_head.Goals as goal

pub returns-in-Bad-clause-goes : goal.returns-in-Bad-clause-goes
returns-in-Bad-clause-goes g c = λ f held are inside.
    (second_refused c.args.self.now.limit c.args.self.now.at (ready f) (open_in f) c.args.piece.now c.in-Bad.reason c.requires.some (sym c.in_default.is ∙ c.refusal.ensures f are inside) c.in-Bad.ensures)

pub returns-in-Short-clause-goes : goal.returns-in-Short-clause-goes
returns-in-Short-clause-goes g c = grind (arith, common_steps, nat_tests, short_next, short_taken)

pub returns-in_err-self-in-Full-clause-goes : goal.returns-in_err-self-in-Full-clause-goes
returns-in_err-self-in-Full-clause-goes g c = λ f held are inside.
    let takes = first_next f _ c.args.piece.now c.in-Full.head c.in-Full.len c.in-Full.ensures c.requires.some (sym c.in_default.is ∙ c.refusal.ensures f are inside) in
    let p = err_from_is_err_and c.from_residual.result c.from_residual.ensures.1 in
    let goes = head_taken c.args.self.now.limit c.args.self.now.at (ready f) (open_in f) c.args.piece.now c.in-Full.head c.in-Full.len c.in-Full.ensures (sym c.in_default.is ∙ c.refusal.ensures f are inside) in
    rw (p.1, p.2) (fails_on c.args.self.now.limit (state c.args.self.now.at f no_part) _ (ready f) c.in-Full.len c.args.piece.now _ goes (c.in_err-self-in-Full.ensures.goes f takes held are))

pub returns-in_ok-self-in-Full-clause-goes : goal.returns-in_ok-self-in-Full-clause-goes
returns-in_ok-self-in-Full-clause-goes g c = grind (arith, first_next, head_taken, one_more_head, stands_here)
