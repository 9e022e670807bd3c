use Rattle.cborn_edn.proofs.Common.{sym, trees}
use Rattle.cborn_edn.proofs.passes.read_text.Goals as goal

pub finish-requires : goal.finish-requires
finish-requires c = let n = c.in_ok-visit_text.ensures.nodes in (n.0, n.1)

pub returns-clause-spelled : goal.returns-clause-spelled
returns-clause-spelled c = let n = c.in_ok-visit_text.ensures.nodes in record { nodes = trees n.0; notated = n.2; spells = sym (c.finish.ensures n.0 n.1) }
