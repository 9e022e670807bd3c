use Rattle.cborn_edn.proofs.Common.{arith, is_false, is_true, is_null, is_undefined, codes}
use Rattle.std.proofs.lemmas.Grind.{common_steps}
use Rattle.cborn_edn.proofs.frequent.after_name.Goals as goal

pub returns-in-116 : goal.returns-in-116
returns-in-116 c = (codes "true", is_true, grind (arith, common_steps))

pub returns-in-110 : goal.returns-in-110
returns-in-110 c = (codes "null", is_null, grind (arith, common_steps))

pub returns-in-102 : goal.returns-in-102
returns-in-102 c = (codes "false", is_false, grind (arith, common_steps))

pub returns-in-117 : goal.returns-in-117
returns-in-117 c = (codes "undefined", is_undefined, grind (arith, common_steps))
