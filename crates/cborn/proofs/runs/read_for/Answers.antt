use Rattle.std.proofs.Common.{rules}
use Rattle.cborn.proofs.runs.read_for.Goals as goal

pub returns-clause-status : goal.returns-clause-status
returns-clause-status g c = search rules
