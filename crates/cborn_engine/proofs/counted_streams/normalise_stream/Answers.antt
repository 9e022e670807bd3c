use Rattle.cborn_engine.proofs.Common.{FormAnswers, CountAnswer, NormalisesCount, bytes_of, most_bytes}
use Rattle.cborn_engine.proofs.Answers.{known_error}
use Rattle.cborn_engine.proofs.Canonical.NormalForm.{written}
use Rattle.cborn_engine.proofs.CountAnswers.Judged.{answered_sent, unanswered_sent}
use Rattle.cborn_engine.proofs.counted_streams.normalise_stream.Goals as goal

pub returns-in_err-input-clause-normalises : goal.returns-in_err-input-clause-normalises
returns-in_err-input-clause-normalises g c =
    let order = g.O.KeyOrder.order in
    let k = c.args.in_kind in
    known_error (NormalisesCount c.args.count order k c.args.out_kind c.args.limit most_bytes _ _ _ _) _ _ c.from_residual.ensures.1
    (unanswered_sent order c.args.count k c.args.limit _ (g.R.Source.remaining c.read_input.new.reader) (λ x. CountAnswer c.args.count k c.args.limit x (FormAnswers order k c.args.out_kind c.args.limit most_bytes x)) _ c.in_err-input.field-0.0 c.in_err-input.ensures.input (λ x r. r))

pub returns-clause-normalises : goal.returns-clause-normalises
returns-clause-normalises g c =
    let order = g.O.KeyOrder.order in
    let k = c.args.in_kind in
    let r = c.form_of-answer in
    answered_sent order c.args.count k c.args.limit _ (g.R.Source.remaining c.read_input.new.reader) (λ x. CountAnswer c.args.count k c.args.limit x (FormAnswers order k c.args.out_kind c.args.limit most_bytes x)) _ _ c.in_ok-input.input
    (bytes_of r.result) c.send.result c.in_ok-input.ensures.input c.send.ensures.sent r.ensures.form

pub returns-clause-headline : goal.returns-clause-headline
returns-clause-headline g c = written g.O.KeyOrder.order g.met.O.KeyOrder.laws c.args.in_kind c.args.out_kind c.args.limit c.args.count _ _ _ _ c.send.result (returns-clause-normalises g c)
