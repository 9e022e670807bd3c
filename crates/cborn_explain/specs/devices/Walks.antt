-- A device of the proofs: what a walk over the first bytes of an input keeps of what is open at their end. No public contract cites it; the contracts of the crate's own functions do.
use Rattle.std.specs.Prelude.{◌≡◌, ℕ, zero, suc, ◌≤◌, ◌/◌, ◌%◌, nat_eq, if◌then◌else◌, List, [], ◌∷◌, ◌++◌, length, map, take}
use Rattle.cborn_model.specs.Partial.{Partial}
use Rattle.cborn_wire.specs.declared.levels.LevelKind.{LevelKind}
use Rattle.cborn_wire.specs.declared.levels.LevelKind.TheVariants.{Sequence, Array, Map, GreatMap, Tag, EndlessArray, EndlessMap, Chunks}
use Rattle.cborn_wire.specs.declared.levels.Level.{Level}
use Rattle.cborn_wire.specs.shared.Ground.{Ground}
use Rattle.cborn_wire.specs.shared.Machine.{nothing, gathering, State, Live, Failed, start, front, run}
use Rattle.cborn_wire.specs.shared.Visiting.{ready, open_in, levels, parts_of}
use Rattle.cborn_explain.specs.declared.paths.Step.{Step}
use Rattle.cborn_explain.specs.declared.paths.Step.TheVariants as steps
use Rattle.cborn_explain.specs.Paths.{EndsAt}

-- the step to the next part of a level, of which k are whole

abbrev pub pair_step : ℕ → Step
pair_step k = if nat_eq (k % 2) 0 then steps.Key (k / 2) else steps.Value (k / 2)

abbrev pub step_with : LevelKind → ℕ → ℕ → Step
step_with Sequence n k = steps.Item k
step_with Array n k = steps.Element k
step_with EndlessArray n k = steps.Element k
step_with Map n k = pair_step k
step_with GreatMap n k = pair_step k
step_with EndlessMap n k = pair_step k
step_with Tag n k = steps.Content n
step_with (Chunks c) n k = steps.Chunk k

abbrev pub step_of : Level → Step
step_of l = step_with l.kind l.argument (parts_of l)

-- the steps to the head that comes next
abbrev pub path_of : List Level → List Step
path_of ls = map step_of ls

-- the offset of the head of the level with this index, or of the head that comes next
abbrev pub place_at : List Level → ℕ → ℕ → ℕ
place_at [] k at = at
place_at (l ∷ ls) zero at = l.place
place_at (l ∷ ls) (suc k) at = place_at ls k at

-- the offset of the head that comes next, or of one that is partial with its string
abbrev pub place_in : State → ℕ
place_in (Live at rd os nothing) = at
place_in (Live at rd os (gathering p g n got)) = p
place_in (Failed rd p r) = p

-- the first bytes of x, up to there, end between two heads, and this is open at their end
pub record Opened (x : List ℕ) (at : ℕ) (f : Partial) : Type 0 where
  pub within : at ≤ length x
  pub ground : Ground 1024 0 (ready f) (open_in f)
  pub bytes : take at x ≡ front (ready f) (open_in f)

-- A walk over all of y, with these levels, is at the head that comes next or that is partial.
pub record IsOver (y : List ℕ) (at : ℕ) (ls : List Level) : Type 0 where
  pub partial : Partial
  pub kept : levels partial ≡ ls
  pub opened : Opened y at partial
  pub stands : place_in (run 1024 (start 0) y) ≡ at

-- A walk with these levels is where the longest front of x up to the place that ends between two heads ends.
pub record IsWalked (x : List ℕ) (place at : ℕ) (ls : List Level) : Type 0 where
  pub partial : Partial
  pub kept : levels partial ≡ ls
  pub opened : Opened x at partial
  pub low : at ≤ place
  pub longest : (g z : List ℕ) (other : List Step) → x ≡ g ++ z → length g ≤ place → EndsAt g other → length g ≤ at
