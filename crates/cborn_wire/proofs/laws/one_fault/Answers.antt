use Rattle.cborn_wire.proofs.Spelled.FaultLaws.{well_or_fault, not_both, one_fault}
use Rattle.cborn_wire.proofs.laws.one_fault.Goals as goal

pub returns-clause-some : goal.returns-clause-some
returns-clause-some c = well_or_fault

pub returns-clause-not_both : goal.returns-clause-not_both
returns-clause-not_both c = not_both

pub returns-clause-not_two : goal.returns-clause-not_two
returns-clause-not_two c = one_fault
