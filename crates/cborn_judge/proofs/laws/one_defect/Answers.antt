use Rattle.cborn_judge.proofs.Common.{Defect, SequenceDefect, defect_rank, first_once}
use Rattle.cborn_judge.proofs.Meaning.Placing.{defect_within}
use Rattle.cborn_judge.proofs.Reasons.{defect_rank_once}
use Rattle.cborn_judge.proofs.laws.one_defect.Goals as goal

pub returns-clause-one : goal.returns-clause-one
returns-clause-one g c t p q r s h k = first_once defect_rank (Defect g.O.KeyOrder.order t) p q r s defect_rank_once h k

pub returns-clause-within : goal.returns-clause-within
returns-clause-within g c t p q r h f = defect_within g.O.KeyOrder.order t p q r h f

pub returns-clause-all : goal.returns-clause-all
returns-clause-all g c ts p q r s h k = first_once defect_rank (SequenceDefect g.O.KeyOrder.order ts) p q r s defect_rank_once h k
