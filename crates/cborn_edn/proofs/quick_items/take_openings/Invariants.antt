use Rattle.std.specs.Prelude.{◌≡◌, ◌≤◌, ◌⊎◌, ◌-◌}
use Rattle.cborn_edn.proofs.Common.{length, IsReading, Wants, WantsMore}
use Rattle.cborn_edn.proofs.quick_items.take_openings.Given as goal

abbrev pub invariant-brackets : goal.invariant-brackets
invariant-brackets g l = IsReading (g.V.Visitor.holds l.visitor) l.fn.source l.here l.writer × (l.was ≤ l.here.at) × ((l.here.phase ≡ Wants) ⊎ (l.here.phase ≡ WantsMore))

abbrev pub decreases-brackets : goal.decreases-brackets
decreases-brackets g l = length l.fn.source.text.now - l.here.at
