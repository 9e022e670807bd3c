-- Text strings of the fixed notation, as pieces.
use Rattle.std.specs.Prelude.{◌≡◌, ◌/◌, ◌%◌, ◌<◌, ◌∷◌, ◌++◌, ◌&&◌}
use Rattle.hex.specs.Hex.{encode_with}
use Rattle.cborn_edn.proofs.Common.{refl, sym, ap, ◌∙◌, ℕ, List, [], slice_index, Bool, true, eqb, ltb, cond, inl, arith, and_parts, and_from, codes, bytes_eq, list_all, flat_map, lower_digits, AreBytes, Mark, Endless, Bytes, Text, marked, is_content, Letter, raw, unit, written, is_letter, meant, token, nowhere, indicator, escaped, map as list_map, after_slash, passes, passes_at}
use Rattle.cborn_lex.proofs.GoodFronts.{same_bytes}
use Rattle.cborn_lex.specs.Strings.{IsText, nothing}
use Rattle.cborn_lex.proofs.Contents.Texts as lettered
use Rattle.cborn_lex.proofs.Contents.Ends.{content_then}
use Rattle.cborn_edn.proofs.Lexed.Chained.{Chained, one_token}
use Rattle.cborn_edn.proofs.Lexed.MarkTexts.{IsMark, Closes, mark_is, indicates}

-- the letter that a byte is written as
abbrev letter_of : ℕ → Letter
letter_of b =
    cond (eqb b 34) (after_slash 34)
    (cond (eqb b 92) (after_slash 92)
    (cond (eqb b 8) (after_slash 98)
    (cond (eqb b 12) (after_slash 102)
    (cond (eqb b 10) (after_slash 110)
    (cond (eqb b 13) (after_slash 114)
    (cond (eqb b 9) (after_slash 116)
    (cond (ltb b 32) (unit 48 48 (slice_index lower_digits (b / 16)) (slice_index lower_digits (b % 16)))
    (raw b))))))))

-- what has to hold of it, as a test
abbrev is_written : ℕ → Bool
is_written b = bytes_eq (escaped b) (written (letter_of b)) && (is_letter 34 (letter_of b) && (bytes_eq (meant (letter_of b)) (b ∷ []) && is_content 34 (escaped b)))

each_written : passes is_written 0 256 ≡ true
unfolding encode_with lib.Utf8.encode
each_written = grind arith

is_written_at : (b : ℕ) → b < 256 → (escaped b ≡ written (letter_of b)) × (is_letter 34 (letter_of b) ≡ true) × (meant (letter_of b) ≡ b ∷ []) × (is_content 34 (escaped b) ≡ true)
is_written_at b h =
    let t = passes_at is_written 0 256 b each_written (omega arith) (omega arith) in
    let first = and_parts _ _ t in
    let second = and_parts _ _ first.1 in
    let third = and_parts _ _ second.1 in
    (same_bytes _ _ first.0, second.0, same_bytes _ _ third.0, third.1)

letters : (x : List ℕ) → AreBytes x → (flat_map escaped x ≡ flat_map written (list_map letter_of x)) × (list_all (is_letter 34) (list_map letter_of x) ≡ true) × (x ≡ flat_map meant (list_map letter_of x))
letters [] h = (refl, refl, refl)
letters (b ∷ x) h =
    let w = is_written_at b h.0 in
    let r = letters x h.1 in (
      ap (λ y. y ++ flat_map escaped x) w.0 ∙ ap (λ y. written (letter_of b) ++ y) r.0,
      and_from _ _ w.1 r.1,
      ap (λ y. b ∷ y) r.2 ∙ ap (λ y. y ++ flat_map meant (list_map letter_of x)) (sym w.2),
    )

is_text : (x : List ℕ) → AreBytes x → IsText 34 (flat_map escaped x) x
is_text x h = let r = letters x h in lettered.is_text 34 (flat_map escaped x) x (record { letters = list_map letter_of x; allowed = r.1; whole = r.0; value = r.2 })

inside : (x : List ℕ) → AreBytes x → is_content 34 (flat_map escaped x) ≡ true
inside [] h = refl
inside (b ∷ x) h = content_then 34 (escaped b) (flat_map escaped x) (is_written_at b h.0).3 (inside x h.1)

pub text_text : (x : List ℕ) (m : Mark) (z : List ℕ) → AreBytes x → IsMark m → Closes z → Chained (codes "\"" ++ (flat_map escaped x ++ (codes "\"" ++ indicator m))) z (token nowhere (Text x m) ∷ [])
text_text x m z h1 h2 h3 = grind (arith, escaped, flat_map, indicates, indicator, inl, inside, is_text, mark_is, marked, one_token)

-- empty strings in no chunks

pub no_byte_chunks : (z : List ℕ) → Closes z → Chained (codes "''_") z (token nowhere (Bytes true [] Endless) ∷ [])
no_byte_chunks z close =
    one_token (Bytes true [] Endless) (codes "''_") z (inl (
      [],
      codes "_",
      record { inside = refl; text = refl; indicator = indicates Endless z tt close.no_word close.no_mark },
      inl ([], nothing, refl),
    ))
