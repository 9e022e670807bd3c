use Rattle.std.specs.Prelude.{◌≡◌, ◌≤◌, ◌+◌, ◌-◌}
use Rattle.cborn_lex.proofs.Common.{List, ℕ, length, take, drop, map, mask_l, is_special, LettersSoFar}
use Rattle.cborn_lex.proofs.letters.push_short_runs.Given as goal

abbrev pub invariant-escapes : goal.invariant-escapes
invariant-escapes l = (l.from ≤ l.at) × (l.at ≤ l.from + 66) × (l.left ≡ mask_l (map (is_special l.quote) (take (l.from + 64 - l.at) (drop l.at l.tail)))) × ((old : List ℕ) → LettersSoFar l.quote l.tail l.from old l.initial.out.items → LettersSoFar l.quote l.tail l.at old l.out.items) × (take (length l.initial.out.items) l.out.items ≡ l.initial.out.items)

abbrev pub decreases-escapes : goal.decreases-escapes
decreases-escapes l = length l.tail - l.at
