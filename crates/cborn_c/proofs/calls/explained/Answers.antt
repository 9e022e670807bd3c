use Rattle.std.proofs.Common.{inl, inr, subst}
use Rattle.std.proofs.lemmas.Bool.{cases_lt}
use Rattle.cborn_c.specs.Calls.{IsFaultOf}
use Rattle.cborn_c.proofs.calls.explained.Goals as goal

-- a number above 65,536 is that of a fault of a second input
pub returns-clause-some : goal.returns-clause-some
returns-clause-some c = elim (cases_lt 65536 c.args.number) [
  | inl above ↦ inr (inl (c.of_first.result, c.of_first.ensures.second above, c.in_ok-fault.ensures.some))
  | inr within ↦ inl (subst (IsFaultOf c.args.kind) (c.of_first.ensures.first within) c.in_ok-fault.ensures.some)
]
