use Rattle.std.specs.Prelude.{◌≡◌, ◌≤◌, ◌-◌}
use Rattle.cborn_lex.proofs.Common.{List, ℕ, length, take, LettersSoFar}
use Rattle.cborn_lex.proofs.letters.push_letters.Given as goal

abbrev pub invariant-letters : goal.invariant-letters
invariant-letters l = (l.at ≤ length l.tail) × ((old : List ℕ) → LettersSoFar l.quote l.tail l.fn.from old l.initial.out.items → LettersSoFar l.quote l.tail l.at old l.out.items) × (take (length l.fn.out.items) l.out.items ≡ l.fn.out.items)

abbrev pub decreases-letters : goal.decreases-letters
decreases-letters l = length l.tail - l.at
