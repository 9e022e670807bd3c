-- A device of the proofs: the flaws of parts, each by itself, and the first that was found. Of public contracts that of `Encoder` alone cites it.
use Rattle.std.specs.Prelude.{◌≡◌}
use Rattle.cborn_judge.specs.Common.{ℕ, Option, Trees, Entries, Tree, IsEarliest, Finds, InvalidReason, DuplicateKey}
use Rattle.cborn_judge.specs.Reasons.{flaw_rank}
use Rattle.cborn_judge.specs.Flaws.{WithinAll, HasRepeat, FlawAt}
use Rattle.cborn_judge.specs.declared.faults.Flaw as flaw

-- ---- what was found

abbrev pub IsEarliestFlaw : Option flaw.Flaw → Option flaw.Flaw → Option flaw.Flaw → Type 0
IsEarliestFlaw = IsEarliest (λ f. (f.place, flaw_rank f.reason))

abbrev pub FindsFlaw : (ℕ → InvalidReason → Type 0) → Option flaw.Flaw → Type 0
FindsFlaw = Finds flaw_rank (λ f. f.place) (λ f. f.reason)

-- ---- flaws

-- the flaws of some nodes, each by itself
abbrev pub FlawIn : Trees → ℕ → InvalidReason → Type 0
FlawIn ts p r = (q : Tree) × WithinAll q ts × FlawAt q p r

-- a key at this place is the same as an earlier one
abbrev pub RepeatFlaw : Entries → ℕ → InvalidReason → Type 0
RepeatFlaw es p r = (r ≡ DuplicateKey) × HasRepeat es p
