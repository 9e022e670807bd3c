-- Indicators, brackets and separators of the fixed notation, as pieces.
use Rattle.std.specs.Prelude.{◌≡◌, ◌∷◌, ◌++◌, ◌||◌}
use Rattle.cborn_edn.proofs.Common.{arith, refl, sym, ap, ℕ, List, [], false, eqb, Some, codes, Width, Direct, Size, WidthFits, SizeFits, Mark, Absent, Endless, Wide, Class, ArrayOpen, MapOpen, ParenClose, Comma, Colon, ChunkOpen, Read, begins, is_word, is_numeral, mark_of, marked, IsIndicator, token, nowhere, mark_for, mark_for_size, indicator, opened, ProfileOne}
use Rattle.cborn_lex.specs.Forms.{Reads}
use Rattle.cborn_edn.proofs.Lexed.Chained.{Chained, one_token, one_white_space, both}

-- a mark that an indicator can be
abbrev pub IsMark : Mark → Type 0
IsMark (Wide Direct) = ⊥
IsMark _ = Unit {0}

-- what follows an item neither continues its last token nor gives it an indicator
pub record Closes (z : List ℕ) : Type 0 where
  pub no_word : begins is_word z ≡ false
  pub no_numeral : begins is_numeral z ≡ false
  pub no_mark : begins (λ c. eqb c 95) z ≡ false
  pub no_paren : begins (λ c. eqb c 40) z ≡ false
  pub no_quote : begins (λ c. eqb c 39) z ≡ false

pub closes : (c : ℕ) (z : List ℕ) → ((((is_word c || is_numeral c) || eqb c 95) || eqb c 40) || eqb c 39) ≡ false → Closes (c ∷ z)
closes c z h1 = grind arith

pub is_mark : (w : Width) (n : ℕ) → WidthFits w n → IsMark (mark_for w n)
is_mark w n h1 = grind arith

pub is_size_mark : (s : Size) (n : ℕ) → SizeFits s n → IsMark (mark_for_size s n)
is_size_mark s n h1 = grind arith

pub mark_is : (m : Mark) → IsMark m → mark_of (indicator m) ≡ Some m
mark_is m h1 = grind arith

pub indicates : (m : Mark) (z : List ℕ) → IsMark m → begins is_word z ≡ false → begins (λ c. eqb c 95) z ≡ false → IsIndicator (indicator m) z
indicates m z h1 h2 h3 = grind arith

-- Separators and closing brackets.

pub space : (z : List ℕ) → Chained (codes " ") z []
space z = one_white_space (codes " ") z (refl, refl)

pub line : (z : List ℕ) → Chained (codes "\n") z []
line z = one_white_space (codes "\n") z (refl, refl)

pub comma : (z : List ℕ) → Chained (codes ",") z (token nowhere Comma ∷ [])
comma z = one_token Comma (codes ",") z (refl, refl)

pub colon : (z : List ℕ) → Chained (codes ":") z (token nowhere Colon ∷ [])
colon z = one_token Colon (codes ":") z (refl, refl)

pub comma_space : (z : List ℕ) → Chained (codes ", ") z (token nowhere Comma ∷ [])
comma_space z = both (codes ",") (codes " ") z (token nowhere Comma ∷ []) [] (comma (32 ∷ z)) (space z)

pub paren_close : (z : List ℕ) → Chained (codes ")") z (token nowhere ParenClose ∷ [])
paren_close z = one_token ParenClose (codes ")") z (refl, refl)

-- Opening brackets.

pub chunks_open : (z : List ℕ) → Chained (codes "(_ ") z (token nowhere ChunkOpen ∷ [])
chunks_open z = both (codes "(_") (codes " ") z (token nowhere ChunkOpen ∷ []) [] (one_token ChunkOpen (codes "(_") (32 ∷ z) ((refl, record { pass = refl; ends = refl }), refl)) (space z)

-- the bracket c and an indicator are a token of k
abbrev Opens : ℕ → (Mark → Class) → Type 0
Opens c k = (s z : List ℕ) (m : Mark) → IsIndicator s z → mark_of s ≡ Some m → Reads ProfileOne (c ∷ s) z (Read (k m))

module _ (c : ℕ) (k : Mark → Class) (opens : Opens c k) where
  spaced : (m : Mark) (z : List ℕ) → IsMark m → Chained (c ∷ (indicator m ++ codes " ")) z (token nowhere (k m) ∷ [])
  spaced m z h = both (c ∷ indicator m) (codes " ") z (token nowhere (k m) ∷ []) [] (one_token (k m) (c ∷ indicator m) (32 ∷ z) (opens (indicator m) (32 ∷ z) m (indicates m (32 ∷ z) h refl refl) (mark_is m h))) (space z)

  bracket : (m : Mark) (z : List ℕ) → IsMark m → begins (λ d. eqb d 95) z ≡ false → Chained (c ∷ opened m) z (token nowhere (k m) ∷ [])
  bracket Absent z h e = one_token (k Absent) (c ∷ []) z (opens [] z Absent e refl)
  bracket Endless z h e = spaced Endless z h
  bracket (Wide w) z h e = spaced (Wide w) z h

pub array_open : (m : Mark) (z : List ℕ) → IsMark m → begins (λ d. eqb d 95) z ≡ false → Chained (codes "[" ++ opened m) z (token nowhere (ArrayOpen m) ∷ [])
array_open = bracket 91 ArrayOpen (λ s z m h e. (h, ap (marked ArrayOpen) (sym e)))

pub map_open : (m : Mark) (z : List ℕ) → IsMark m → begins (λ d. eqb d 95) z ≡ false → Chained (codes "{" ++ opened m) z (token nowhere (MapOpen m) ∷ [])
map_open = bracket 123 MapOpen (λ s z m h e. (h, ap (marked MapOpen) (sym e)))
