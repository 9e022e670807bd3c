-- Letters between quotes: runs of plain ones, and escapes.
use Rattle.std.specs.Prelude.{◌≡◌, ◌+◌, ◌-◌, ◌*◌, ◌/◌, ◌<◌, ◌≤◌, ◌^◌, ◌%◌, ◌∷◌, ◌++◌, ◌&&◌, ◌||◌, ◌⊎◌}
use Rattle.cborn_lex.proofs.Common.{refl, sym, ap, ap₂, ◌∙◌, subst, ℕ, zero, suc, List, [], length, take, drop, get_or, map, replicate, Bool, true, false, not, cond, eqb, leb, ltb, inl, inr, Option, Some, None, arith, append-nil, append_assoc, and_parts, and_from, or_cases, eq-eqb, eqb-true, ne_eqb, cond-true, cond-false, not-true, false≢true, lt-ltb, le-leb, cases_lt, take-take, length-take, length-map, drop_more, take-append-drop, length-append, length-drop, drop-map, drop-drop, take_rest, zero-div, list_all-append, take-add, take-nil, list_all, flat_map, prefix_len, is_digit, zip2, mask_l, top, is_content, is_unclosed, is_escape, escape_code, four, are_hex, code, is_high, is_low, Letter, raw, escaped, unit, pair, written, meant, is_letter, is_plain, is_not, is_special, LettersSoFar, LettersTaken, NoText, is_raw, escape_of, code_at, unit_from, encode_utf8}
use Rattle.std.proofs.lemmas.Bool.Decides.{leb_tells}
use Rattle.std.proofs.lemmas.List.Sums.{prefix_len-le-length}
use Rattle.std.proofs.lemmas.Nat.{shr-shr, shr_high}
use Rattle.std.proofs.lemmas.List.Concat.{flat_map-append}
use Rattle.std.proofs.lemmas.Simd.{zip2_splat, zip2_of_maps, map-map, mask_l-mod, first_set_mask_l, length-chunk, run_in_chunk_stops}
use Rattle.cborn_lex.proofs.Contents.Texts.{is_text, LetterAt, NoLetters}
use Rattle.cborn_lex.proofs.Contents.Ends.{content_then, unclosed_then}
use Rattle.cborn_lex.proofs.Contents.Letters.{raw_allowed, raw_written, raw_meant, escape_is, no_escape, no_control, never, no_raw, not_raw}
use Rattle.cborn_lex.proofs.OneFront.Quotes.{content_cons, quoted}
use lib.Bits.{bit_or}
use lib.Count.{count_trailing_zeros}

-- The letters of a block that aren't plain, as bits.

abbrev hit : ℕ → ℕ → ℕ
hit a b = cond (eqb a b) 255 0

abbrev below : ℕ → ℕ → ℕ
below a b = cond (ltb a b) 255 0

tops : (a b c : Bool) → top 7 (bit_or (bit_or (cond a 255 0) (cond b 255 0)) (cond c 255 0)) ≡ not ((not c && not b) && not a)
tops a b c = grind arith

not_below : (a b : ℕ) → not (ltb a b) ≡ leb b a
not_below a b = grind arith

lanes : (q : ℕ) (v : List ℕ) → map (λ c. top 7 (bit_or (bit_or (hit c q) (hit c 92)) (below c 32))) v ≡ map (is_special q) v
lanes q v = grind arith

pub marked_lanes : (width q : ℕ) (v : List ℕ) → width ≤ 64 → length v ≡ width → mask_l (map (top 7) (zip2 bit_or (zip2 bit_or (zip2 hit v (replicate width q)) (zip2 hit v (replicate width 92))) (zip2 below v (replicate width 32)))) % 2 ^ 64 ≡ mask_l (map (is_special q) v)
marked_lanes width q v most long =
    let quotes = zip2_splat hit v width q long in
    let slashes = zip2_splat hit v width 92 long in
    let controls = zip2_splat below v width 32 long in
    let two = zip2_of_maps bit_or (λ c. hit c q) (λ c. hit c 92) v quotes slashes in
    let all = zip2_of_maps bit_or (λ c. bit_or (hit c q) (hit c 92)) (λ c. below c 32) v two controls in
    ap (λ l. mask_l l % 2 ^ 64) (ap (map (top 7)) all ∙ map-map (top 7) (λ c. bit_or (bit_or (hit c q) (hit c 92)) (below c 32)) v ∙ lanes q v)
    ∙ mask_l-mod (map (is_special q) v) 64 (omega (arith, length-map v (is_special q), long, most))

-- How many come before the lowest bit.

first_plain : (q : ℕ) (b : Bool) (c n : ℕ) (x : List ℕ) → is_plain q c ≡ b → list_all (is_plain q) (take n x) ≡ true → list_all (is_plain q) (take (cond (not (not b)) (1 + n) 0) (c ∷ x)) ≡ true
first_plain q b c n x h1 h2 = grind arith

all_plain : (q : ℕ) (x : List ℕ) → list_all (is_plain q) (take (prefix_len (λ c. not (is_special q c)) x) x) ≡ true
all_plain q [] = refl
all_plain q (c ∷ x) = first_plain q (is_plain q c) c (prefix_len (λ c. not (is_special q c)) x) x refl (all_plain q x)

module _ (width q : ℕ) (tail : List ℕ) (at found : ℕ) (most : width ≤ 64) (room : at + width ≤ length tail) (e : found ≡ mask_l (map (is_special q) (take width (drop at tail)))) where
  long : length (take width (drop at tail)) ≡ width
  long = length-chunk at width tail room

  counted : cond (eqb found 0) width (count_trailing_zeros 64 found) ≡ prefix_len (λ c. not (is_special q c)) (take width (drop at tail))
  counted = ap (λ m. cond (eqb m 0) width (count_trailing_zeros 64 m)) e ∙ first_set_mask_l (is_special q) (take width (drop at tail)) width long most

  run_small : cond (eqb found 0) width (count_trailing_zeros 64 found) ≤ width
  run_small = omega (arith, counted, prefix_len-le-length (λ c. not (is_special q c)) (take width (drop at tail)), long)

  run_is_plain : list_all (is_plain q) (take (cond (eqb found 0) width (count_trailing_zeros 64 found)) (drop at tail)) ≡ true
  run_is_plain =
      ap (list_all (is_plain q)) (sym (take-take _ width (drop at tail) run_small) ∙ ap (λ n. take n (take width (drop at tail))) counted) ∙ all_plain q (take width (drop at tail))

  pub none_found : found ≡ 0 → list_all (is_plain q) (take width (drop at tail)) ≡ true
  none_found h = subst (λ (n : ℕ). list_all (is_plain q) (take n (drop at tail)) ≡ true) (cond-true (eqb found 0) width (count_trailing_zeros 64 found) (eq-eqb found 0 h)) run_is_plain

  pub first_found : (found ≡ 0 → ⊥) → (count_trailing_zeros 64 found ≤ width) × (list_all (is_plain q) (take (count_trailing_zeros 64 found) (drop at tail)) ≡ true)
  first_found h = subst (λ (n : ℕ). (n ≤ width) × (list_all (is_plain q) (take n (drop at tail)) ≡ true)) (cond-false (eqb found 0) width (count_trailing_zeros 64 found) (ne_eqb found 0 h)) (run_small, run_is_plain)

  pub first_stops : (found ≡ 0 → ⊥) → count_trailing_zeros 64 found < width → is_plain q (get_or tail (at + count_trailing_zeros 64 found) 0) ≡ false
  first_stops h l = not-true _ (run_in_chunk_stops (is_special q) tail at width (count_trailing_zeros 64 found) 0 room (sym (cond-false (eqb found 0) width (count_trailing_zeros 64 found) (ne_eqb found 0 h)) ∙ counted) l)

-- The bits that are left of a block, once some of its letters are read.

half : (b : Bool) (m : ℕ) → (cond b 1 0 + 2 * m) / 2 ^ 1 ≡ m
half b m = grind arith

bits_after : (k : ℕ) (bs : List Bool) → mask_l bs / 2 ^ k ≡ mask_l (drop k bs)
bits_after zero bs = let e : mask_l bs ≡ mask_l bs * 2 ^ 0 + 0 = omega arith in ap (λ m. m / 2 ^ 0) e ∙ shr_high (mask_l bs) 0 0 (omega arith)
bits_after (suc k) [] = zero-div (2 ^ suc k)
bits_after (suc k) (b ∷ bs) =
    let one : 1 + k ≡ suc k = omega arith in
    ap (λ j. mask_l (b ∷ bs) / 2 ^ j) (sym one) ∙ sym (shr-shr (mask_l (b ∷ bs)) 1 k) ∙ ap (λ m. m / 2 ^ k) (half b (mask_l bs)) ∙ bits_after k bs

taken_after : (k w : ℕ) (x : List ℕ) → drop k (take w x) ≡ take (w - k) (drop k x)
taken_after zero w x = let e : w ≡ w - 0 = omega arith in ap (λ n. take n x) e
taken_after (suc k) zero x = let e : 0 ≡ 0 - suc k = omega arith in ap (λ n. take n (drop (suc k) x)) e
taken_after (suc k) (suc w) [] = sym (take-nil (suc w - suc k))
taken_after (suc k) (suc w) (c ∷ x) = let e : w - k ≡ suc w - suc k = omega arith in taken_after k w x ∙ ap (λ n. take n (drop k x)) e

-- LAW: the bits of what is left of a block that ends at the offset stop
pub left_more : (q : ℕ) (tail : List ℕ) (stop at n left : ℕ) → left ≡ mask_l (map (is_special q) (take (stop - at) (drop at tail))) → left / 2 ^ n / 2 ^ 2 ≡ mask_l (map (is_special q) (take (stop - (at + n + 2)) (drop (at + n + 2) tail)))
left_more q tail stop at n left e =
    let k = n + 2 in
    let far : at + k ≡ at + n + 2 = omega arith in
    let less : stop - at - k ≡ stop - (at + n + 2) = omega arith in
    shr-shr left n 2
    ∙ ap (λ m. m / 2 ^ k) e
    ∙ bits_after k (map (is_special q) (take (stop - at) (drop at tail)))
    ∙ ap mask_l (drop-map (is_special q) k (take (stop - at) (drop at tail)) ∙ ap (map (is_special q)) (taken_after k (stop - at) (drop at tail)))
    ∙ ap₂ (λ (w : ℕ) (x : List ℕ). mask_l (map (is_special q) (take w x))) less (drop-drop k at tail ∙ ap (λ i. drop i tail) far)

-- LAW: where a bit is left, the letters before the lowest are plain, and it is in the block
pub short_run : (q : ℕ) (tail : List ℕ) (from at left : ℕ) → from ≤ at → from + 64 ≤ length tail → left ≡ mask_l (map (is_special q) (take (from + 64 - at) (drop at tail))) → (left ≡ 0 → ⊥) → (at + count_trailing_zeros 64 left ≤ from + 64) × (list_all (is_plain q) (take (count_trailing_zeros 64 left) (drop at tail)) ≡ true)
short_run q tail from at left h room e some = elim (cases_lt at (from + 64)) [
  | inl l ↦
      let found = first_found (from + 64 - at) q tail at left (omega (arith, h)) (omega (arith, l, room)) e some in
      (omega (arith, found.0, l), found.1)
  | inr l ↦
      let none : from + 64 - at ≡ 0 = omega (arith, l) in
      absurd (some (e ∙ ap (λ w. mask_l (map (is_special q) (take w (drop at tail)))) none))
]

-- More of plain letters.

pub more_plain : (q : ℕ) (tail : List ℕ) (at n : ℕ) → list_all (is_plain q) (take at tail) ≡ true → list_all (is_plain q) (take n (drop at tail)) ≡ true → list_all (is_plain q) (take (at + n) tail) ≡ true
more_plain q tail at n h k = ap (list_all (is_plain q)) (take-add at n tail) ∙ list_all-append (is_plain q) (take at tail) (take n (drop at tail)) ∙ and_from _ _ h k

-- what the buffer had first, it has after two steps that each keep what they find
pub still : (old mid new : List ℕ) → take (length old) mid ≡ old → take (length mid) new ≡ mid → take (length old) new ≡ old
still old mid new h1 h2 = grind (arith, length-take, take-take)

-- Letters so far.

letters_also : (q : ℕ) (tail old mid new : List ℕ) (at n : ℕ) (ls : List Letter) → LettersSoFar q tail at old mid → list_all (is_letter q) ls ≡ true → is_content q (flat_map written ls) ≡ true → take n tail ≡ take at tail ++ flat_map written ls → new ≡ mid ++ flat_map meant ls → LettersSoFar q tail n old new
letters_also q tail old mid new at n ls s a i w e = record {
  inside = ap (is_content q) w ∙ content_then q (take at tail) (flat_map written ls) s.inside i;
  letters = s.letters ++ ls;
  allowed = list_all-append (is_letter q) s.letters ls ∙ and_from _ _ s.allowed a;
  whole = w ∙ ap (λ z. z ++ flat_map written ls) s.whole ∙ sym (flat_map-append written s.letters ls);
  added = e ∙ ap (λ z. z ++ flat_map meant ls) s.added ∙ append_assoc old (flat_map meant s.letters) (flat_map meant ls) ∙ ap (λ z. old ++ z) (sym (flat_map-append meant s.letters ls));
}

pub none_yet : (q : ℕ) (tail old : List ℕ) → LettersSoFar q tail 0 old old
none_yet q tail old = record { inside = refl; letters = []; allowed = refl; whole = refl; added = sym (append-nil old) }

raw_content : (q : ℕ) (x : List ℕ) → list_all (is_plain q) x ≡ true → is_content q x ≡ true
raw_content q [] h = refl
raw_content q (c ∷ x) h =
    let hs = and_parts (is_raw c && not (eqb c q)) (list_all (is_plain q) x) h in
    let ks = and_parts (is_raw c) (not (eqb c q)) hs.0 in
    content_cons q c x (not-true _ (and_parts _ _ ks.0).1) (not-true _ ks.1) (raw_content q x hs.1)

plain_raw : (q : ℕ) (x : List ℕ) → list_all (is_plain q) x ≡ true → list_all is_raw x ≡ true
plain_raw q [] h = refl
plain_raw q (c ∷ x) h =
    let hs = and_parts (is_raw c && not (eqb c q)) (list_all (is_plain q) x) h in
    and_from _ _ (and_parts (is_raw c) (not (eqb c q)) hs.0).0 (plain_raw q x hs.1)

pub run_more : (q : ℕ) (tail old mid new : List ℕ) (at n : ℕ) → list_all (is_plain q) (take n (drop at tail)) ≡ true → new ≡ mid ++ take n (drop at tail) → LettersSoFar q tail at old mid → LettersSoFar q tail (at + n) old new
run_more q tail old mid new at n h e s =
    let x = take n (drop at tail) in
    letters_also q tail old mid new at (at + n) (map raw x) s (raw_allowed q x (plain_raw q x h)) (ap (is_content q) (raw_written x) ∙ raw_content q x h)
    (take-add at n tail ∙ ap (λ z. take at tail ++ z) (sym (raw_written x))) (e ∙ ap (λ z. mid ++ z) (sym (raw_meant x)))

-- LAW: a block's letters before the lowest bit that is left
pub short_run_more : (q : ℕ) (tail old mid new : List ℕ) (from at left : ℕ) → from ≤ at → from + 64 ≤ length tail → left ≡ mask_l (map (is_special q) (take (from + 64 - at) (drop at tail))) → (left ≡ 0 → ⊥) → new ≡ mid ++ take (count_trailing_zeros 64 left) (take (length tail - at) (drop at tail)) → LettersSoFar q tail at old mid → LettersSoFar q tail (at + count_trailing_zeros 64 left) old new
short_run_more q tail old mid new from at left h1 h2 h3 h4 h5 h6 = grind (arith, run_more, short_run, take_rest)

pub letters_end : (q : ℕ) (tail old new : List ℕ) (at : ℕ) → at < length tail → get_or tail at 0 ≡ q → LettersSoFar q tail at old new → LettersTaken q tail at old new
letters_end q tail old new at h e s = record { within = h; inside = s.inside; quote = e; bytes = flat_map meant s.letters; is = is_text q (take at tail) (flat_map meant s.letters) (record { letters = s.letters; allowed = s.allowed; whole = s.whole; value = refl }); added = s.added }

-- Escapes of two characters.

abbrev entry : ℕ → ℕ → ℕ → Bool
entry q e c = (eqb c 0 || (eqb c 39 && not (eqb q 39))) || (is_escape q e && eqb c (escape_code e))

abbrev entries : ℕ → ℕ → List ℕ → Bool
entries q e [] = true
entries q e (c ∷ cs) = entry q e c && entries q (suc e) cs

entry_at : (q k i : ℕ) (cs : List ℕ) → entries q k cs ≡ true → i < length cs → entry q (k + i) (get_or cs i 0) ≡ true
entry_at q k i [] h l = absurd (omega arith)
entry_at q k zero (c ∷ cs) h l = let same : k ≡ k + 0 = omega arith in subst (λ (j : ℕ). entry q j c ≡ true) same (and_parts (entry q k c) (entries q (suc k) cs) h).0
entry_at q k (suc i) (c ∷ cs) h l = let e : suc k + i ≡ k + suc i = omega arith in subst (λ (j : ℕ). entry q j (get_or cs i 0) ≡ true) e (entry_at q (suc k) i cs (and_parts (entry q k c) (entries q (suc k) cs) h).1 (omega (arith, l)))

-- the code's table
abbrev meanings : List ℕ
meanings = replicate 34 0 ++ 34 ∷ (replicate 4 0 ++ 39 ∷ (replicate 7 0 ++ 47 ∷ (replicate 44 0 ++ 92 ∷ (replicate 5 0 ++ 8 ∷ (replicate 3 0 ++ 12 ∷ (replicate 7 0 ++ 10 ∷ (replicate 3 0 ++ 13 ∷ (0 ∷ 9 ∷ replicate 11 0))))))))

abbrev Quote : ℕ → Type 0
Quote q = (q ≡ 34) ⊎ (q ≡ 39)

entries_are : (q : ℕ) → Quote q → entries q 0 meanings ≡ true
entries_are q h1 = grind arith

pub meant_by : (q e : ℕ) → Quote q → e < 128 → (get_or meanings e 0 ≡ 0 → ⊥) → (get_or meanings e 0 ≡ 39 → q ≡ 39) → (is_escape q e ≡ true) × (get_or meanings e 0 ≡ escape_code e)
meant_by q e quote l n m =
    let same : 0 + e ≡ e = omega arith in
    let c = get_or meanings e 0 in
    elim (or_cases (eqb c 0 || (eqb c 39 && not (eqb q 39))) (is_escape q e && eqb c (escape_code e)) (subst (λ (j : ℕ). entry q j c ≡ true) same (entry_at q 0 e meanings (entries_are q quote) l))) [
      | inl i ↦ elim (or_cases (eqb c 0) (eqb c 39 && not (eqb q 39)) i) [
        | inl j ↦ absurd (n (eqb-true c 0 j))
        | inr j ↦ let js = and_parts (eqb c 39) (not (eqb q 39)) j in absurd (false≢true (sym (not-true _ js.1) ∙ eq-eqb q 39 (m (eqb-true c 39 js.0))))
      ]
      | inr i ↦ let is = and_parts (is_escape q e) (eqb c (escape_code e)) i in (is.0, eqb-true c (escape_code e) is.1)
    ]

-- One escape more.

hex_plain : (q c : ℕ) → Quote q → is_digit c 16 ≡ true → is_plain q c ≡ true
hex_plain q c h1 h2 = grind (arith, and_from, cond-true, false≢true, le-leb, leb_tells, lt-ltb, ne_eqb)

four_content : (q a b c d : ℕ) → Quote q → are_hex a b c d ≡ true → is_content q (four a b c d) ≡ true
four_content q a b c d quote h =
    let hs = and_parts (is_digit a 16 && is_digit b 16) (is_digit c 16 && is_digit d 16) h in
    let front = and_parts (is_digit a 16) (is_digit b 16) hs.0 in
    let back = and_parts (is_digit c 16) (is_digit d 16) hs.1 in
    raw_content q (a ∷ b ∷ c ∷ d ∷ []) (and_from _ _ (hex_plain q a quote front.0) (and_from _ _ (hex_plain q b quote front.1) (and_from _ _ (hex_plain q c quote back.0) (and_from _ _ (hex_plain q d quote back.1) refl))))

letter_content : (q : ℕ) (l : Letter) (x y : List ℕ) → Quote q → LetterAt q (92 ∷ x) l y → is_content q (written l) ≡ true
letter_content q (raw d) x y quote h = absurd (no_raw q d x y h)
letter_content q (escaped e) x y quote h = refl
letter_content q (unit a b c d) x y quote h = four_content q a b c d quote (and_parts (are_hex a b c d) _ h.allowed).0
letter_content q (pair a b c d e f g i) x y quote h =
    let hs = and_parts (are_hex a b c d && is_high (code a b c d)) (are_hex e f g i && is_low (code e f g i)) h.allowed in
    content_then q (four a b c d) (four e f g i) (four_content q a b c d quote (and_parts _ _ hs.0).0) (four_content q e f g i quote (and_parts _ _ hs.1).0)

after_slash : (at : ℕ) (tail : List ℕ) → at < length tail → get_or tail at 0 ≡ 92 → drop at tail ≡ 92 ∷ drop (at + 1) tail
after_slash at tail h e = drop_more tail at 0 h ∙ ap (λ c. c ∷ drop (at + 1) tail) e

taken : (n : ℕ) (x s z : List ℕ) → x ≡ s ++ z → length s ≡ n → take n x ≡ s
taken n x s z e h = ap (take n) e ∙ ap (λ m. take m (s ++ z)) (sym h) ∙ whole s z
  where
    whole : (s z : List ℕ) → take (length s) (s ++ z) ≡ s
    whole [] z = refl
    whole (c ∷ s) z = ap (λ y. c ∷ y) (whole s z)

pub escape_within : (q : ℕ) (tail : List ℕ) (at c size : ℕ) → at < length tail → get_or tail at 0 ≡ 92 → escape_of q (drop (at + 1) tail) ≡ Some (c, size) → (at + size ≤ length tail) × (0 < size)
escape_within q tail at c size l b e =
    let r = escape_is q c size (drop (at + 1) tail) e in
    let fits = r.fits in
    let some = r.some in
    (omega (arith, length-drop (at + 1) tail), some)

pub escape_more : (q : ℕ) (tail old mid new : List ℕ) (at c size : ℕ) → Quote q → at < length tail → get_or tail at 0 ≡ 92 → escape_of q (drop (at + 1) tail) ≡ Some (c, size) → new ≡ mid ++ encode_utf8 c → LettersSoFar q tail at old mid → LettersSoFar q tail (at + size) old new
escape_more q tail old mid new at c size quote l b e w s =
    let x = drop (at + 1) tail in
    let r = escape_is q c size x e in
    let one = r.letter in
    let front = r.at in
    let fits = r.fits in
    let sized : length (written one) ≡ size = omega (arith, ap length front.whole, length-append (written one) (drop size (92 ∷ x)), length-drop size (92 ∷ x)) in
    let cut : take size (drop at tail) ≡ written one = ap (take size) (after_slash at tail l b) ∙ taken size (92 ∷ x) (written one) (drop size (92 ∷ x)) front.whole sized in
    letters_also q tail old mid new at (at + size) (one ∷ []) s (and_from _ _ front.allowed refl) (ap (is_content q) (append-nil (written one)) ∙ letter_content q one x (drop size (92 ∷ x)) quote front)
    (take-add at size tail ∙ ap (λ z. take at tail ++ z) (cut ∙ sym (append-nil (written one)))) (w ∙ ap (λ z. mid ++ z) (sym r.value ∙ sym (append-nil (meant one))))

-- Where nothing goes on.

pub no_slash : (q : ℕ) → Quote q → eqb q 92 ≡ false
no_slash q h1 = grind arith

split : (i k : ℕ) (tail : List ℕ) → i < length tail → take (i + suc k) tail ≡ take i tail ++ get_or tail i 0 ∷ take k (drop (i + 1) tail)
split i k tail h = take-add i (suc k) tail ∙ ap (λ z. take i tail ++ z) (ap (take (suc k)) (drop_more tail i 0 h))

module _ (q : ℕ) (tail old mid : List ℕ) (at : ℕ) (quote : Quote q) (s : LettersSoFar q tail at old mid) where
  later : (i : ℕ) → i < length tail → is_content q (take i tail) ≡ true → get_or tail i 0 ≡ q → i < at → ⊥
  later i l h e m =
      let k = at - i - 1 in
      let far : at ≡ i + suc k = omega (arith, m) in
      let cut : take at tail ≡ take i tail ++ q ∷ take k (drop (i + 1) tail) = ap (λ n. take n tail) far ∙ split i k tail l ∙ ap (λ c. take i tail ++ c ∷ take k (drop (i + 1) tail)) e in
      let endless_information : is_unclosed q (take at tail) ≡ true = ap (is_unclosed q) (sym (append-nil (take at tail))) ∙ unclosed_then q (take at tail) [] s.inside refl in
      (quoted q (no_slash q quote)).apart (take i tail) (take k (drop (i + 1) tail)) h (ap (is_unclosed q) (sym cut) ∙ endless_information)

  pub none_at_end : length tail ≤ at → NoText q tail
  none_at_end n i l h e bytes t = later i l h e (omega (arith, n, l))

  nothing_from : at < length tail → (get_or tail at 0 ≡ q → ⊥) → ((k : ℕ) → NoLetters q (get_or tail at 0 ∷ take k (drop (at + 1) tail))) → NoText q tail
  nothing_from a n none i l h e bytes t = elim (cases_lt i at) [
    | inl m ↦ later i l h e m
    | inr m ↦
        let apart : (at ≡ i → ⊥) = λ f. n (ap (λ j. get_or tail j 0) f ∙ e) in
        let k = i - at - 1 in
        let far : i ≡ at + suc k = omega (arith, m, apart) in
        let cut : take i tail ≡ take at tail ++ get_or tail at 0 ∷ take k (drop (at + 1) tail) = ap (λ n. take n tail) far ∙ split at k tail a in
        never q (take i tail) (get_or tail at 0 ∷ take k (drop (at + 1) tail)) (flat_map meant s.letters)
        (record { letters = s.letters; allowed = s.allowed; whole = cut ∙ ap (λ z. z ++ get_or tail at 0 ∷ take k (drop (at + 1) tail)) s.whole; value = refl }) (none k) bytes t
  ]

  pub none_at_control : at < length tail → (get_or tail at 0 ≡ q → ⊥) → (get_or tail at 0 ≡ 92 → ⊥) → is_plain q (get_or tail at 0) ≡ false → NoText q tail
  none_at_control a n m p = nothing_from a n (λ k. no_control q (get_or tail at 0) (take k (drop (at + 1) tail)) (not_raw (is_raw (get_or tail at 0)) (eqb (get_or tail at 0) q) p (ne_eqb _ q n)) m)

-- an escape that fails fails in a shorter text too

unit_fails : (b : Bool) (n : ℕ) (x z : List ℕ) → unit_from (cond b (Some n) None) (x ++ z) ≡ None → unit_from (cond b (Some n) None) x ≡ None
unit_fails b n x z h1 = grind arith

units_fail : (x z : List ℕ) → unit_from (code_at (x ++ z)) (drop 4 (x ++ z)) ≡ None → unit_from (code_at x) (drop 4 x) ≡ None
units_fail x z h1 = grind (arith, unit_fails)

escape_chosen : (a b : Bool) (s u v : Option (ℕ × ℕ)) → (v ≡ None → u ≡ None) → cond a s (cond b v None) ≡ None → cond a s (cond b u None) ≡ None
escape_chosen a b s u v h1 h2 = grind arith

escape_fails : (q : ℕ) (x z : List ℕ) → escape_of q (x ++ z) ≡ None → escape_of q x ≡ None
escape_fails q x z h1 = grind (arith, escape_chosen, units_fail)

pub none_at_escape : (q : ℕ) (tail old mid : List ℕ) (at : ℕ) → Quote q → at < length tail → get_or tail at 0 ≡ 92 → escape_of q (drop (at + 1) tail) ≡ None → LettersSoFar q tail at old mid → NoText q tail
none_at_escape q tail old mid at quote a b f s =
    nothing_from q tail old mid at quote s a (λ e. false≢true (sym (no_slash q quote) ∙ eq-eqb q 92 (sym e ∙ b)))
    (λ k. subst (λ (c : ℕ). NoLetters q (c ∷ take k (drop (at + 1) tail))) (sym b) (no_escape q (take k (drop (at + 1) tail)) (escape_fails q (take k (drop (at + 1) tail)) (drop k (drop (at + 1) tail)) (ap (escape_of q) (take-append-drop k (drop (at + 1) tail)) ∙ f))))

pub unit_escape : (q : ℕ) (tail x : List ℕ) (at c size : ℕ) → at + 1 < length tail → get_or tail (at + 1) 0 ≡ 117 → x ≡ drop (at + 2) tail → unit_from (code_at x) (drop 4 x) ≡ Some (c, size) → escape_of q (drop (at + 1) tail) ≡ Some (c, size)
unit_escape q tail x at c size h1 h2 h3 h4 = grind (arith, drop_more)

pub plain_others : (c : ℕ) (x : List ℕ) → list_all (is_plain c) x ≡ true → list_all (is_not c) x ≡ true
plain_others c [] e = refl
plain_others c (d ∷ x) e =
    let h = and_parts (is_plain c d) (list_all (is_plain c) x) e in
    and_from (is_not c d) (list_all (is_not c) x) ((and_parts _ _ h.0).1) (plain_others c x h.1)
