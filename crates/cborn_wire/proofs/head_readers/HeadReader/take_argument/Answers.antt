use Rattle.cborn_wire.proofs.Common.{rules, err_from_is_err_and, major_at, Live, ready, open_in, seen_head, arith}
use Rattle.cborn_wire.proofs.HeadReading.HeadSteps.{argument_ends}
use Rattle.cborn_wire.proofs.Machine.WholeFront.{one_more_head}
use Rattle.cborn_wire.proofs.Visiting.Taking.{fails_on, any_argument}
use Rattle.cborn_wire.proofs.head_readers.HeadReader.take_argument.Goals as goal

pub returns-in_err-self-clause-goes : goal.returns-in_err-self-clause-goes
returns-in_err-self-clause-goes g c = λ f held are takes.
    let h = c.args.head in
    let s = c.args.self.now in
    let p = err_from_is_err_and c.from_residual.result c.from_residual.ensures.1 in
    let goes = argument_ends s.limit s.at (ready f) (open_in f) h.place (major_at h.major) h.width h.bytes c.args.piece.now h.len c.in-Some.n (search rules) c.requires.short c.requires.some c.in-Some.ensures.0 c.in-Some.ensures.1 in
    rw (p.1, p.2) (fails_on s.limit (Live s.at (ready f) (open_in f) (seen_head h)) _ (ready f) 1 c.args.piece.now _ goes (c.in_err-self.ensures.goes f (any_argument f (major_at h.major) h.width 0 c.in-Some.n takes) held are))

pub returns-clause-goes : goal.returns-clause-goes
returns-clause-goes g c = grind (arith, any_argument, argument_ends, one_more_head)
