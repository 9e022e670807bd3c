use Rattle.cborn_edn.proofs.Common.{arith}
use Rattle.cborn_edn.proofs.Reader.CommonTokens.{nothing, join}
use Rattle.cborn_edn.proofs.white_space.skip_white_space.Goals as goal

pub white_space-init : goal.white_space-init
white_space-init c = (c.requires, nothing c.args.profile c.args.text.now c.args.at)

pub white_space-preserved-then-is_white : goal.white_space-preserved-then-is_white
white_space-preserved-then-is_white c = grind (arith, join)

pub white_space-preserved-then-c-eq47 : goal.white_space-preserved-then-c-eq47
white_space-preserved-then-c-eq47 c = grind (arith, join)

pub white_space-preserved : goal.white_space-preserved
white_space-preserved c = grind (arith, join)
