use Rattle.std.specs.Prelude.{◌≡◌}
use Rattle.cborn_edn.proofs.Common.{length, rules, arith}
use Rattle.cborn_edn.proofs.Reader.Built.{first_added, next_added}
use Rattle.cborn_edn.proofs.strings.add_piece.Goals as goal

pub returns-in_default-clause-shows : goal.returns-in_default-clause-shows
returns-in_default-clause-shows c = λ h o a x base p w t e.
    let n : c.len.result ≡ length c.args.writer.now.pieces.items = search rules in
    first_added c.args.here.now c.args.writer.now h c.args.token.kind c.args.token.place c.args.token.mark c.args.token.quoted a x base p w o c.is_lone.result c.in_default.is t (λ y q. c.is_lone.ensures y (omega (arith, q, n))) e

pub returns-clause-shows : goal.returns-clause-shows
returns-clause-shows c = λ h o a x base p w t e. next_added c.args.here.now c.args.writer.now h c.args.token.kind c.args.token.place c.args.token.mark c.args.token.quoted a x base p w o c.in-Some.string c.note_piece.new.error c.in-Some.is c.note_piece.ensures e
