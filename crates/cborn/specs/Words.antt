-- What the words of a command line ask for, by their places and how they begin.
use Rattle.std.specs.Borrow.{Bor}
use Rattle.std.specs.Prelude.{ℕ, suc, List, [], ◌∷◌, Bool, false, ◌≡◌, ◌≤◌, ◌⊎◌, nat_eq, slice_get, IsSomeAnd, codes, if◌then◌else◌}

-- the word begins as an option does, with a hyphen
abbrev pub is_option : List ℕ → Bool
is_option [] = false
is_option (letter ∷ word) = nat_eq letter 45

-- how many of the words are no options
abbrev pub plain_count : List (Bor (List ℕ)) → ℕ
plain_count [] = 0
plain_count (word ∷ words) = if is_option word.now then plain_count words else suc (plain_count words)

-- one of the words is `--`, after which each is a name
abbrev pub HasHyphens : List (Bor (List ℕ)) → Type 0
HasHyphens words = (i : ℕ) × IsSomeAnd (slice_get words i) (λ word. word.now ≡ codes "--")

-- after the program's name comes `check`, and then two words at least that may be names of files
abbrev pub IsCheckOfFiles : List (Bor (List ℕ)) → Type 0
IsCheckOfFiles words = IsSomeAnd (slice_get words 1) (λ word. word.now ≡ codes "check") × ((4 ≤ plain_count words) ⊎ HasHyphens words)
