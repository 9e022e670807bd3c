use Rattle.cborn_lex.proofs.WholeTexts.Chains.{stop_inside, stop_no_piece}
use Rattle.cborn_lex.proofs.laws.no_token_at_stop.Goals as goal

pub returns : goal.returns
returns c = record { inside = stop_inside; no_piece = stop_no_piece }
