use Rattle.cborn_judge.proofs.Common.{Flaw, flaw_rank, first_once}
use Rattle.cborn_judge.proofs.Meaning.Placing.{flaw_within}
use Rattle.cborn_judge.proofs.Reasons.{flaw_rank_once}
use Rattle.cborn_judge.proofs.laws.one_flaw.Goals as goal

pub returns-clause-one : goal.returns-clause-one
returns-clause-one c t p q r s h k = first_once flaw_rank (Flaw t) p q r s flaw_rank_once h k

pub returns-clause-within : goal.returns-clause-within
returns-clause-within c t p q r h f = flaw_within t p q r h f
