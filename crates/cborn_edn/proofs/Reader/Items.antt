-- Tokens of numbers, strings and brackets from what was found at a place of a text.
use Rattle.std.specs.Prelude.{◌≡◌, ◌+◌, ◌<◌, ◌≤◌, ◌∷◌, ◌++◌}
use Rattle.cborn_edn.proofs.Common.{not-true, opening, opening_character, refl, sym, ap, ◌∙◌, subst, ℕ, List, [], length, take, drop, get_or, Bool, true, false, not, eqb, Some, Ok, arith, append_assoc, append-nil, ne_eqb, take-append-drop, length-take-le, drop-drop, Profile, Mark, Absent, Class, Number, TagOpen, Text, EmbedClose, ChunkOpen, begins, is_numeral, is_word, mark_of, signed, list_all, IsUtf8, is_content, is_plain, LettersSoFar, IsRun, IsIndicator, IsMark, IsNumeral, TokensBetween, IsTokenAt, NoPieceAt, IsTextAt, length-append, none_yet, run_more, letters_end}
use Rattle.cborn_lex.specs.Numbers.{integer}
use Rattle.cborn_lex.specs.Strings.{IsText}
use Rattle.cborn_lex.specs.Good as good
use Rattle.cborn_lex.specs.Good.{Takes}
use Rattle.cborn_lex.proofs.GoodFronts.{judge}
use Rattle.cborn_edn.proofs.Reader.Utf8.{slice_utf8, text_utf8}
use Rattle.cborn_edn.proofs.Reader.CommonTokens.{begins_here, token_here, ended}

numeral : (negative : Bool) (x mark z : List ℕ) (n : ℕ) (m : Mark) → integer negative x ≡ Ok n → IsRun is_numeral x (mark ++ z) → IsMark mark z m → IsNumeral x mark z n m
numeral negative x mark z n m i r k = let j = judge negative x (Ok n) i in record { literal = j.0; bounded = j.1; run = r; indicator = k }

-- what begins with that character
first : (c : ℕ) (x : List ℕ) → begins (λ d. eqb d c) x ≡ true → x ≡ c ∷ drop 1 x
first c x h1 = grind arith

-- a decimal integer of len digits, and an indicator of size characters after it
module _ (profile : Profile) (text tail after : List ℕ) (at len size n : ℕ) (m : Mark) (t : tail ≡ drop at text) (a : after ≡ drop len tail) (l : len ≤ length tail) (s : size ≤ length after)
    (i : integer false (take len tail) ≡ Ok n) (r : IsRun is_numeral (take len tail) (drop len tail)) (k : IsIndicator (take size after) (drop size after)) (o : mark_of (take size after) ≡ Some m) where
  whole : drop at text ≡ take len tail ++ (take size after ++ drop size after)
  whole = sym t ∙ sym (take-append-drop len tail) ∙ ap (λ y. take len tail ++ y) (sym a ∙ sym (take-append-drop size after))

  run : IsRun is_numeral (take len tail) (take size after ++ drop size after)
  run = subst (IsRun is_numeral (take len tail)) (sym a ∙ sym (take-append-drop size after)) r

  sized : length (take len tail ++ take size after) ≡ len + size
  sized = omega (arith, length-append (take len tail) (take size after), length-take-le len tail l, length-take-le size after s)

  pub number_here : begins (λ c. eqb c 40) (drop size after) ≡ false → IsTokenAt profile text at (at + len + size) (Number false n m)
  number_here b =
      let x = take len tail in
      let z = drop size after in
      token_here profile text (x ++ take size after) z at (at + len + size) (Number false n m) (whole ∙ sym (append_assoc x (take size after) z)) (omega (arith, sized))
      (good.positive x (take size after) z n m (numeral false x (take size after) z n m i run (k, o)) b)

  pub tag_here : begins (λ c. eqb c 40) (drop size after) ≡ true → IsTokenAt profile text at (at + len + size + 1) (TagOpen n m)
  tag_here b =
      let x = take len tail in
      let mark = take size after in
      let z = drop 1 (drop size after) in
      let split : drop size after ≡ 40 ∷ z = first 40 (drop size after) b in
      let all : drop at text ≡ (x ++ (mark ++ 40 ∷ [])) ++ z = whole ∙ ap (λ y. x ++ (mark ++ y)) split ∙ ap (λ y. x ++ y) (sym (append_assoc mark (40 ∷ []) z)) ∙ sym (append_assoc x (mark ++ 40 ∷ []) z) in
      let long : at + len + size + 1 ≡ at + length (x ++ (mark ++ 40 ∷ [])) = omega (arith, length-append x (mark ++ 40 ∷ []), length-append mark (40 ∷ []), length-take-le len tail l, length-take-le size after s) in
      token_here profile text (x ++ (mark ++ 40 ∷ [])) z at (at + len + size + 1) (TagOpen n m) all long
      (good.tag x mark z n m (numeral false x mark (40 ∷ z) n m i (subst (λ (y : List ℕ). IsRun is_numeral x (mark ++ y)) split run) (subst (λ (y : List ℕ). IsIndicator mark y) split k, o)))

-- what begins with a comma
pub before_comma : (x : List ℕ) → begins (λ c. eqb c 44) x ≡ true → (begins (λ c. eqb c 95) x ≡ false) × (begins (λ c. eqb c 40) x ≡ false)
before_comma x h1 = grind arith

below_signed : (n : ℕ) → 0 < n → signed true n Absent ≡ Number true n Absent
below_signed n h = let e : eqb n 0 ≡ false = ne_eqb n 0 (λ f. omega (arith, h, f)) in ap (λ b. Number (not b) n Absent) e

-- a minus, and a decimal integer of len digits without an indicator
pub negative_here : (profile : Profile) (text tail : List ℕ) (at len n : ℕ) → at < length text → get_or text at 0 ≡ 45 → tail ≡ drop (at + 1) text → len ≤ length tail → 0 < n → integer true (take len tail) ≡ Ok n → IsRun is_numeral (take len tail) (drop len tail) → begins (λ c. eqb c 95) (drop len tail) ≡ false → IsTokenAt profile text at (at + 1 + len) (Number true n Absent)
negative_here profile text tail at len n h e t l s i r b =
    let x = take len tail in
    let z = drop len tail in
    let all : drop at text ≡ (45 ∷ (x ++ [])) ++ z = begins_here text at 45 h e ∙ ap (λ y. 45 ∷ y) (sym t ∙ sym (take-append-drop len tail) ∙ ap (λ y. y ++ z) (sym (append-nil x))) in
    let long : at + 1 + len ≡ at + length (45 ∷ (x ++ [])) = omega (arith, ap length (append-nil x), length-take-le len tail l) in
    token_here profile text (45 ∷ (x ++ [])) z at (at + 1 + len) (Number true n Absent) all long
    (subst (λ (k : Class). Takes profile (45 ∷ (x ++ [])) z (Some k)) (below_signed n s) (good.negative x [] z n Absent (numeral true x [] z n Absent i r (b, refl))))

pub opening_takes : (m : Bool) (profile : Profile) (s z : List ℕ) (a : Mark) → IsMark s z a → Takes profile (opening_character m ∷ s) z (Some (opening m a))
opening_takes true profile s z a i = good.map_open s z a i
opening_takes false profile s z a i = good.array_open s z a i

-- a bracket, and an indicator of len characters after it
pub opening_here : (profile : Profile) (text tail : List ℕ) (at c len : ℕ) (m : Mark) (k : Mark → Class) → at < length text → get_or text at 0 ≡ c → tail ≡ drop (at + 1) text → len ≤ length tail → IsIndicator (take len tail) (drop len tail) → mark_of (take len tail) ≡ Some m
    → ((s z : List ℕ) → IsMark s z m → Takes profile (c ∷ s) z (Some (k m))) → IsTokenAt profile text at (at + 1 + len) (k m)
opening_here profile text tail at c len m k h e t l i o f =
    let all : drop at text ≡ (c ∷ take len tail) ++ drop len tail = begins_here text at c h e ∙ ap (λ y. c ∷ y) (sym t ∙ sym (take-append-drop len tail)) in
    token_here profile text (c ∷ take len tail) (drop len tail) at (at + 1 + len) (k m) all (omega (arith, length-take-le len tail l)) (f (take len tail) (drop len tail) (i, o))

-- a bracket without an indicator
pub bare_opening : (profile : Profile) (text tail : List ℕ) (at c : ℕ) (k : Class) (marked : Bool) → at < length text → get_or text at 0 ≡ c → tail ≡ drop (at + 1) text → marked ≡ begins (λ d. eqb d 95) tail → not marked ≡ true → ((z : List ℕ) → begins (λ d. eqb d 95) z ≡ false → Takes profile (c ∷ []) z (Some k)) → IsTokenAt profile text at (at + 1) k
bare_opening profile text tail at c k marked h e t m none f = token_here profile text (c ∷ []) (drop (at + 1) text) at (at + 1) k (begins_here text at c h e) refl (f (drop (at + 1) text) (ap (begins (λ d. eqb d 95)) (sym t) ∙ sym m ∙ not-true marked none))

-- the end of what is embedded, and an indicator of len characters after it
pub embed_end_here : (profile : Profile) (text tail : List ℕ) (at len stop : ℕ) (m : Mark) → at + 1 < length text → get_or text at 0 ≡ 62 → get_or text (at + 1) 0 ≡ 62 → tail ≡ drop (at + 1 + 1) text → len ≤ length tail → IsIndicator (take len tail) (drop len tail) → mark_of (take len tail) ≡ Some m → stop ≡ at + 2 + len
    → IsTokenAt profile text at stop (EmbedClose m)
embed_end_here profile text tail at len stop m h e f t l i o s =
    let two : at + 2 ≡ at + 1 + 1 = omega arith in
    let next : drop (at + 1) text ≡ 62 ∷ drop (at + 2) text = begins_here text (at + 1) 62 h f ∙ ap (λ n. 62 ∷ drop n text) (sym two) in
    let all : drop at text ≡ (62 ∷ 62 ∷ take len tail) ++ drop len tail = begins_here text at 62 (omega (arith, h)) e ∙ ap (λ y. 62 ∷ y) (next ∙ ap (λ y. 62 ∷ y) (ap (λ n. drop n text) two ∙ sym t ∙ sym (take-append-drop len tail))) in
    token_here profile text (62 ∷ 62 ∷ take len tail) (drop len tail) at stop (EmbedClose m) all (omega (arith, s, length-take-le len tail l)) (good.embed_close (take len tail) (drop len tail) m (i, o))

-- `(_` and a space
pub chunks_here : (profile : Profile) (text : List ℕ) (at : ℕ) → at + 2 < length text → get_or text at 0 ≡ 40 → get_or text (at + 1) 0 ≡ 95 → get_or text (at + 2) 0 ≡ 32 → IsTokenAt profile text at (at + 2) ChunkOpen
chunks_here profile text at h e f g =
    let two : at + 1 + 1 ≡ at + 2 = omega arith in
    let space : drop (at + 2) text ≡ 32 ∷ drop (at + 2 + 1) text = begins_here text (at + 2) 32 h g in
    let all : drop at text ≡ 40 ∷ 95 ∷ drop (at + 2) text = begins_here text at 40 (omega (arith, h)) e ∙ ap (λ y. 40 ∷ y) (begins_here text (at + 1) 95 (omega (arith, h)) f ∙ ap (λ n. 95 ∷ drop n text) two) in
    let bare : begins is_word (drop (at + 2) text) ≡ false = ap (begins is_word) space in
    token_here profile text (40 ∷ 95 ∷ []) (drop (at + 2) text) at (at + 2) ChunkOpen all refl (good.chunk_open (drop (at + 2) text) bare)

-- LAW: plain letters up to a quote are a content, which stands for itself
pub plain_here : (tail : List ℕ) (len : ℕ) → len < length tail → get_or tail len 0 ≡ 34 → list_all (is_plain 34) (take len tail) ≡ true → (is_content 34 (take len tail) ≡ true) × IsText 34 (take len tail) (take len tail)
plain_here tail len h e p =
    let s = run_more 34 tail [] [] (take len tail) 0 len p refl (none_yet 34 tail []) in
    let zero : 0 + len ≡ len = omega arith in
    let t = letters_end 34 tail [] (take len tail) len h e (subst (λ (n : ℕ). LettersSoFar 34 tail n [] (take len tail)) zero s) in
    (t.inside, subst (λ (b : List ℕ). IsText 34 (take len tail) b) (sym t.added) t.is)

-- LAW: what is at a text string that no other piece follows
pub text_at : (profile : Profile) (text tail bytes : List ℕ) (at len stop : ℕ) → at < length text → get_or text at 0 ≡ 34 → tail ≡ drop (at + 1) text → len < length tail → get_or tail len 0 ≡ 34 → is_content 34 (take len tail) ≡ true → IsText 34 (take len tail) bytes
    → begins (λ c. eqb c 95) (drop (at + len + 2) text) ≡ false → TokensBetween profile text (at + len + 2) stop [] → NoPieceAt text stop → stop ≤ length text → IsTextAt profile text at stop bytes
text_at profile text tail bytes at len stop h e t l q i is b white none inside =
    let place : at + 1 + (len + 1) ≡ at + len + 2 = omega arith in
    let after : drop (at + len + 2) text ≡ drop (len + 1) tail = ap (λ n. drop n text) (sym place) ∙ sym (drop-drop (len + 1) (at + 1) text) ∙ ap (drop (len + 1)) (sym t) in
    record {
      stop = at + len + 2;
      token = (let s = ended text tail at len 34 34 h e t l q in token_here profile text (34 ∷ take len tail ++ 34 ∷ []) (drop (len + 1) tail) at (at + len + 2) (Text bytes Absent) s.0 s.1 (good.text (take len tail) bytes [] (drop (len + 1) tail) Absent i is ((subst (λ (y : List ℕ). begins (λ c. eqb c 95) y ≡ false) after b), refl)));
      utf8 = λ u. text_utf8 34 (take len tail) bytes is (subst (λ (y : List ℕ). IsUtf8 (take len y)) (sym t) (slice_utf8 text at len u h (omega (arith, e)) (subst (λ (y : List ℕ). len < length y) t l) (subst (λ (y : List ℕ). get_or y len 0 < 128) t (omega (arith, q)))));
      white_space = white;
      ends = none;
      inside = inside;
    }
