use Rattle.cborn_lex.proofs.Common.{inl, inr}
use Rattle.cborn_lex.proofs.Runs.{meant_by}
use Rattle.cborn_lex.proofs.letters.escape_code.Goals as goal

pub returns : goal.returns
returns c = meant_by c.args.quote c.args.second c.requires.double_or_single c.if-second-ge128.false c.if-c-eq0.false (λ h. elim c.if-quote-ne39.either [ inl e ↦ e.1 | inr n ↦ absurd (n h) ])
