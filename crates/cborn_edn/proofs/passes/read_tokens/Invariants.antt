use Rattle.std.specs.Prelude.{◌-◌}
use Rattle.cborn_edn.proofs.Common.{length, IsReading}
use Rattle.cborn_edn.proofs.passes.read_tokens.Given as goal

abbrev pub invariant-tokens : goal.invariant-tokens
invariant-tokens g l = IsReading (g.V.Visitor.holds l.visitor) l.fn.source l.here l.writer

abbrev pub decreases-tokens : goal.decreases-tokens
decreases-tokens g l = length l.fn.source.text.now - l.here.at
