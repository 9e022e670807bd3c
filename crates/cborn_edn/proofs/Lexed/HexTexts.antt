-- Byte strings of the fixed notation, as pieces.
use Rattle.std.specs.Prelude.{◌≡◌, ◌/◌, ◌%◌, ◌<◌, ◌∷◌, ◌++◌, ◌&&◌}
use Rattle.hex.specs.Hex.{encode_with}
use Rattle.cborn_edn.proofs.Common.{refl, sym, ap, ◌∙◌, take, drop, take-append-drop, append_assoc, ℕ, zero, suc, List, [], slice_index, Bool, true, false, inl, arith, and_parts, and_from, codes, list_all, is_digit, encode_lower, lower_digits, IsBytes, AreBytes, Mark, Bytes, is_not, marked, HasDigits, token, nowhere, indicator, decode_of-encode_lower, passes_at}
use Rattle.cborn_lex.specs.Strings.{nothing, digit}
use Rattle.cborn_edn.proofs.Lexed.Chained.{Chained, one_token}
use Rattle.cborn_edn.proofs.Lexed.MarkTexts.{IsMark, Closes, mark_is, indicates}

pub bytes_at : (x : List ℕ) → AreBytes x → IsBytes x
bytes_at [] h i = omega arith
bytes_at (b ∷ x) h zero = h.0
bytes_at (b ∷ x) h (suc i) = bytes_at x h.1 i

-- a digit of hexadecimal, and no single quote
abbrev is_inside : ℕ → Bool
is_inside c = is_digit c 16 && is_not 39 c

digit_inside : (d : ℕ) → d < 16 → is_inside (slice_index lower_digits d) ≡ true
digit_inside d h = passes_at (λ e. is_inside (slice_index lower_digits e)) 0 16 d refl (omega arith) (omega arith)

inside : (x : List ℕ) → AreBytes x → list_all is_inside (encode_lower x) ≡ true
unfolding encode_with
inside [] h = refl
inside (b ∷ x) h =
    let k : b < 256 = h.0 in
    and_from _ _ (digit_inside (b / 16) (omega arith)) (and_from _ _ (digit_inside (b % 16) (omega arith)) (inside x h.1))

no_quote : (ds : List ℕ) → list_all is_inside ds ≡ true → list_all (is_not 39) ds ≡ true
no_quote [] h = refl
no_quote (d ∷ ds) h = let hs = and_parts (is_inside d) (list_all is_inside ds) h in and_from _ _ (and_parts (is_digit d 16) (is_not 39 d) hs.0).1 (no_quote ds hs.1)

are_digits : (ds : List ℕ) → list_all is_inside ds ≡ true → HasDigits ds ds
are_digits [] h = nothing
are_digits (d ∷ ds) h = let hs = and_parts (is_inside d) (list_all is_inside ds) h in digit d ds ds (and_parts (is_digit d 16) (is_not 39 d) hs.0).0 (are_digits ds hs.1)

pub bytes_text : (x : List ℕ) (m : Mark) (z : List ℕ) → AreBytes x → IsMark m → Closes z → Chained (codes "h'" ++ (encode_lower x ++ (codes "'" ++ indicator m))) z (token nowhere (Bytes false x m) ∷ [])
bytes_text x m z h k close =
    one_token (Bytes false x m) (104 ∷ 39 ∷ (encode_lower x ++ (39 ∷ indicator m))) z (
      [],
      39 ∷ (encode_lower x ++ (39 ∷ indicator m)),
      record { pass = refl; ends = refl },
      refl,
      inl (
        refl,
        inl (
          encode_lower x,
          indicator m,
          record { inside = no_quote (encode_lower x) (inside x h); text = refl; indicator = indicates m z k close.no_word close.no_mark },
          inl (x, (encode_lower x, are_digits (encode_lower x) (inside x h), decode_of-encode_lower x (bytes_at x h)), ap (marked (Bytes false x)) (sym (mark_is m k))),
        ),
      ),
    )

-- Parts of such a text.

pub hex_nothing : encode_lower [] ≡ []
unfolding encode_with
hex_nothing = grind arith

pub hex_more : (x y : List ℕ) → encode_lower (x ++ y) ≡ encode_lower x ++ encode_lower y
unfolding encode_with
hex_more [] y = refl
hex_more (b ∷ x) y = ap (λ l. slice_index lower_digits (b / 16) ∷ slice_index lower_digits (b % 16) ∷ l) (hex_more x y)

-- some bytes are written, and the others not yet
pub hex_on : (old out new rest : List ℕ) (n : ℕ) → old ≡ out ++ encode_lower rest → new ≡ out ++ encode_lower (take n rest) → old ≡ new ++ encode_lower (drop n rest)
hex_on old out new rest n h e =
    h ∙ ap (λ r. out ++ encode_lower r) (sym (take-append-drop n rest)) ∙ ap (λ l. out ++ l) (hex_more (take n rest) (drop n rest))
    ∙ sym (append_assoc out (encode_lower (take n rest)) (encode_lower (drop n rest))) ∙ ap (λ l. l ++ encode_lower (drop n rest)) (sym e)
