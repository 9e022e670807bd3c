use Rattle.cborn_judge.proofs.Meaning.Judging.{meaning, no_flaw}
use Rattle.cborn_judge.proofs.laws.no_flaw.Goals as goal

pub returns : goal.returns
returns c t = ((λ h. meaning t h), (λ m p r f. no_flaw t m.0 m.1 p r f))
