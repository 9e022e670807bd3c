use Rattle.cborn_wire.proofs.Common.{code, are_bytes}
use Rattle.cborn_wire.proofs.HeadReading.HeadFronts.{code_small, wide_front}
use Rattle.cborn_wire.proofs.heads.read_wide.Goals as goal

pub returns-in-None : goal.returns-in-None
returns-in-None c = λ first e i free. wide_front c.args.rest.now first (code c.args.major) c.args.width (code_small c.args.major) e i (are_bytes c.args.rest.now c.type_inv.rest) c.in-None.ensures free
