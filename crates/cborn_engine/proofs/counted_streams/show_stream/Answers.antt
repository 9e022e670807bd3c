use Rattle.cborn_engine.proofs.Common.{ShowAnswers, CountAnswer, ShowsCount, bytes_of, most_bytes}
use Rattle.cborn_engine.proofs.Answers.{known_error}
use Rattle.cborn_engine.proofs.CountAnswers.Streamed.{unread_sent, read_sent, read_shown, show_refused}
use Rattle.cborn_engine.proofs.counted_streams.show_stream.Goals as goal

pub returns-in_err-input-clause-shows : goal.returns-in_err-input-clause-shows
returns-in_err-input-clause-shows g c =
    let k = c.args.in_kind in
    known_error (ShowsCount c.args.count k c.args.out_kind c.args.limit most_bytes _ _ _ _) _ _ c.from_residual.ensures.1
    (unread_sent (λ x. CountAnswer c.args.count k c.args.limit x (ShowAnswers k c.args.out_kind c.args.limit most_bytes x)) _ (g.R.Source.remaining c.read_bytes.new.reader) _ k c.args.limit c.in_err-input.field-0.0 (λ x r. show_refused k c.args.out_kind c.args.limit most_bytes x _ r) c.in_err-input.ensures.collects)

pub returns-clause-shows : goal.returns-clause-shows
returns-clause-shows g c =
    let k = c.args.in_kind in
    let x = c.deref.result.now in
    let r = c.show_slice-answer in
    read_sent (λ x. CountAnswer c.args.count k c.args.limit x (ShowAnswers k c.args.out_kind c.args.limit most_bytes x)) _ (g.R.Source.remaining c.read_bytes.new.reader) _ _ c.in_ok-input.input x c.in_ok-input.ensures.collects c.deref.ensures.value
    (bytes_of r.result) c.send.result c.send.ensures.sent (λ l. read_shown c.args.count k c.args.limit x l c.args.out_kind r.result r.ensures.shown)
