-- Simple values of the fixed notation, as pieces.
use Rattle.std.specs.Prelude.{◌≡◌, ◌<◌, ◌∷◌, ◌++◌}
use Rattle.cborn_edn.proofs.Common.{refl, sym, subst, ℕ, List, [], false, eqb, inl, inr, decimal, append-nil, arith, eqb-true, cases_Bool, codes, Absent, Number, Word, SimpleOpen, ParenClose, begins, Item, simple, token, tokens_of, nowhere, simple_item, shown_simple}
use Rattle.cborn_edn.proofs.Lexed.Chained.{Chained, one_token, both}
use Rattle.cborn_edn.proofs.Lexed.MarkTexts.{Closes, closes, paren_close}
use Rattle.cborn_edn.proofs.Lexed.DecimalTexts.{number_text}

simple_open : (z : List ℕ) → Chained (codes "simple(") z (token nowhere SimpleOpen ∷ [])
simple_open z = one_token SimpleOpen (codes "simple(") z (codes "imple", codes "(", record { pass = refl; ends = refl }, refl, inr (refl, refl, refl, refl))

abbrev numbered : ℕ → Item
numbered n = simple nowhere nowhere false n Absent nowhere

numbered_text : (n : ℕ) (z : List ℕ) → n < 256 → Chained (codes "simple(" ++ (decimal n ++ codes ")")) z (tokens_of (numbered n))
numbered_text n z h =
    subst (λ (x : List ℕ). Chained (codes "simple(" ++ (x ++ codes ")")) z (tokens_of (numbered n))) (append-nil (decimal n))
    (both (codes "simple(") ((decimal n ++ []) ++ codes ")") z (token nowhere SimpleOpen ∷ []) (token nowhere (Number false n Absent) ∷ token nowhere ParenClose ∷ []) (simple_open (((decimal n ++ []) ++ codes ")") ++ z))
    (both (decimal n ++ []) (codes ")") z (token nowhere (Number false n Absent) ∷ []) (token nowhere ParenClose ∷ []) (number_text n Absent (41 ∷ z) (omega arith) tt (closes 41 z refl)) (paren_close z)))

other_item : (n : ℕ) → eqb n 20 ≡ false → eqb n 21 ≡ false → eqb n 22 ≡ false → eqb n 23 ≡ false → simple_item n ≡ numbered n
other_item n e f g h = grind arith

other_text : (n : ℕ) → eqb n 20 ≡ false → eqb n 21 ≡ false → eqb n 22 ≡ false → eqb n 23 ≡ false → shown_simple n ≡ codes "simple(" ++ (decimal n ++ codes ")")
other_text n e f g h = grind arith

abbrev IsRead : List ℕ → ℕ → Type 0
IsRead z n = Chained (shown_simple n) z (tokens_of (simple_item n))

pub simple_text : (n : ℕ) (z : List ℕ) → n < 256 → Closes z → Chained (shown_simple n) z (tokens_of (simple_item n))
simple_text n z l k = elim (cases_Bool (eqb n 20)) [
  | inl e ↦ subst (IsRead z) (sym (eqb-true n 20 e)) (one_token (Word 20) (codes "false") z (codes "alse", [], record { pass = refl; ends = k.no_word }, refl, (k.no_quote, refl, refl)))
  | inr e ↦ elim (cases_Bool (eqb n 21)) [
    | inl f ↦ subst (IsRead z) (sym (eqb-true n 21 f)) (one_token (Word 21) (codes "true") z (codes "rue", [], record { pass = refl; ends = k.no_word }, refl, (k.no_quote, refl, refl)))
    | inr f ↦ elim (cases_Bool (eqb n 22)) [
      | inl g ↦ subst (IsRead z) (sym (eqb-true n 22 g)) (one_token (Word 22) (codes "null") z (codes "ull", [], record { pass = refl; ends = k.no_word }, refl, (k.no_quote, refl, refl)))
      | inr g ↦ elim (cases_Bool (eqb n 23)) [
        | inl h ↦ subst (IsRead z) (sym (eqb-true n 23 h)) (one_token (Word 23) (codes "undefined") z (codes "ndefined", [], record { pass = refl; ends = k.no_word }, refl, (k.no_quote, refl, refl)))
        | inr h ↦ rw (other_text n e f g h, other_item n e f g h) (numbered_text n z l)
      ]
    ]
  ]
]

-- it doesn't begin as an indicator does
pub simple_begins : (n : ℕ) (z : List ℕ) → begins (λ c. eqb c 95) (shown_simple n ++ z) ≡ false
simple_begins n z = grind arith
