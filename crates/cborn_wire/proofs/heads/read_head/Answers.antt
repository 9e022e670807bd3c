use Rattle.cborn_wire.proofs.Common.{sym, ◌∙◌, take_rest}
use Rattle.cborn_wire.proofs.HeadReading.HeadFronts.{endless_front, wide_fronts}
use Rattle.cborn_wire.proofs.heads.read_head.Goals as goal

pub returns-then-is_endless : goal.returns-then-is_endless
returns-then-is_endless c = endless_front c.args.bytes.now c.read_endless.result c.of_initial_byte-major.result c.in-len1-up.len_at_least c.of_initial_byte-major.ensures (sym c.is_endless.ensures ∙ c.if-is_endless.true) c.read_endless.ensures

pub returns-in_default-major : goal.returns-in_default-major
returns-in_default-major c = wide_fronts c.args.bytes.now _ c.read_wide.result c.of_initial_byte-major.result c.wide_width.result (take_rest c.args.bytes.now 1) c.in-len1-up.len_at_least c.of_initial_byte-major.ensures c.wide_width.ensures c.in_default-major.not-Other c.read_wide.ensures
