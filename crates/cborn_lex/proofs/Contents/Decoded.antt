-- What base64 decodes without a fault is bytes.
use Rattle.std.specs.Prelude.{◌≡◌, ◌+◌, ◌*◌, ◌/◌, ◌%◌, ◌<◌, ◌∷◌, ◌⊎◌}
use Rattle.cborn_lex.proofs.Common.{refl, sym, ap, ◌∙◌, ℕ, zero, suc, List, [], length, take, Bool, true, ltb, inl, inr, Option, None, Result, Ok, Err, arith, and_parts, and_from, eq-eqb, ltb-true, lt-ltb, list_all-append, get_or-drop, list_all, slice_index, DecodeError, IsBytes, decode_of}
use Rattle.base64.specs.declared.engine.general_purpose.GeneralPurpose.{GeneralPurpose}
use Rattle.base64.specs.Decode.{or_else, symbol_error, group_error, group_bytes, groups_error, groups_bytes, decode_group, push_leftover, scan, scan_steps, suffix_bytes, lone_error, groups_before_last, decode_outcome, IsDecodeTable}
use Rattle.base64.proofs.Decoding.{IsLeftover, IsLeftover_next}
use Rattle.base64.proofs.Tables.{IsDecodeTable_from, are_tables_inverse}

abbrev pub is_byte : ℕ → Bool
is_byte c = ltb c 256

abbrev pub are_bytes : List ℕ → Bool
are_bytes = list_all is_byte

pub bytes_at : (x : List ℕ) → are_bytes x ≡ true → IsBytes x
bytes_at [] h i = omega arith
bytes_at (c ∷ x) h zero = ltb-true c 256 (and_parts _ _ h).0
bytes_at (c ∷ x) h (suc i) = bytes_at x (and_parts _ _ h).1 i

none_parts : (x y : Option DecodeError) → or_else x y ≡ None → (x ≡ None) × (y ≡ None)
none_parts x y h1 = grind arith

group_is : (a b c d : ℕ) → a < 64 → b < 64 → c < 64 → d < 64 → are_bytes (decode_group a b c d) ≡ true
group_is a b c d h k l m = and_from _ _ (lt-ltb (a * 4 + b / 16) 256 (omega arith)) (and_from _ _ (lt-ltb (b % 16 * 16 + c / 4) 256 (omega arith)) (and_from _ _ (lt-ltb (c % 4 * 64 + d) 256 (omega arith)) refl))

symbol : (dec s : List ℕ) (i : ℕ) → IsDecodeTable dec → IsBytes s → symbol_error dec s i ≡ None → slice_index dec (slice_index s i) < 64
symbol dec s i table bytes none = elim (table (slice_index s i) (bytes i)) [ inl f ↦ absurd (cc (rw (eq-eqb _ _ f) at none)) | inr h ↦ h ]

groups : (dec s : List ℕ) (q : ℕ) → IsDecodeTable dec → IsBytes s → groups_error dec s q ≡ None → are_bytes (groups_bytes dec s q) ≡ true
unfolding groups_error groups_bytes
groups dec s zero table bytes none = refl
groups dec s (suc q) table bytes none =
    let i : ℕ = 4 * q in
    let parts = none_parts (groups_error dec s q) (group_error dec s i) none in
    let p0 = none_parts (symbol_error dec s i) _ parts.1 in
    let p1 = none_parts (symbol_error dec s (i + 1)) _ p0.1 in
    let p2 = none_parts (symbol_error dec s (i + 2)) (symbol_error dec s (i + 3)) p1.1 in
    list_all-append is_byte (groups_bytes dec s q) (group_bytes dec s i)
    ∙ and_from _ _ (groups dec s q table bytes parts.0)
    (group_is _ _ _ _ (symbol dec s i table bytes p0.0) (symbol dec s (i + 1) table bytes p1.0) (symbol dec s (i + 2) table bytes p2.0) (symbol dec s (i + 3) table bytes p2.1))

taken : (n : ℕ) (x : List ℕ) → are_bytes x ≡ true → are_bytes (take n x) ≡ true
taken zero x h = refl
taken (suc n) [] h = refl
taken (suc n) (c ∷ x) h = let hs = and_parts (is_byte c) (are_bytes x) h in and_from _ _ hs.0 (taken n x hs.1)

zeros : (k : ℕ) → slice_index (0 ∷ 0 ∷ 0 ∷ 0 ∷ []) k < 64
zeros k = grind arith

result_cases : {X : Type 0} (r : Result X DecodeError) → ((x : X) × (r ≡ Ok x)) ⊎ ((e : DecodeError) × (r ≡ Err e))
result_cases (Ok x) = inl (x, refl)
result_cases (Err e) = inr (e, refl)

scanned : (dec : List ℕ) (pad at : ℕ) (bs : List ℕ) (st end : _) (i : ℕ) → IsDecodeTable dec → IsBytes bs → IsLeftover st i → scan dec pad at st i bs ≡ Ok end → (k : ℕ) → slice_index end.morsels k < 64
unfolding scan_steps
scanned dec pad at [] st end i table bytes held h = let n : st ≡ end = cc h in rw (← n) held.3
scanned dec pad at (b ∷ bs) st end i table bytes held h = elim (result_cases (push_leftover dec pad at st i b)) [
  | inl ok ↦ scanned dec pad at bs ok.0 end (i + 1) table (λ k. bytes (suc k)) (IsLeftover_next dec pad at st i b ok.0 table held (bytes 0) ok.1) (rw (ok.1, scan_steps) at h)
  | inr bad ↦ cc (rw (bad.1, scan_steps) at h)
]

last : (dec s : List ℕ) (pad at : ℕ) → IsDecodeTable dec → IsBytes s → are_bytes (suffix_bytes dec pad at s) ≡ true
last dec s pad at h1 h2 = grind (arith, get_or-drop, group_is, result_cases, scanned, taken, zeros)

outcome : (x : Option DecodeError) (d b : List ℕ) → decode_outcome x d ≡ Ok b → (x ≡ None) × (d ≡ b)
outcome x d b h1 = grind arith

pub decoded_are_bytes : (e : GeneralPurpose) (s b : List ℕ) → IsBytes s → decode_of e s ≡ Ok b → are_bytes b ≡ true
decoded_are_bytes e s b bytes h =
    let dec = e.decode_table in
    let pad = e.padding.value in
    let q = groups_before_last (length s) in
    let table = IsDecodeTable_from e.encode_table dec (are_tables_inverse e.encode_table dec pad e.tables) in
    let parts = outcome _ _ b h in
    let p0 = none_parts (lone_error dec pad s) _ parts.0 in
    let p1 = none_parts (groups_error dec s q) _ p0.1 in
    ap are_bytes (sym parts.1) ∙ (list_all-append is_byte (groups_bytes dec s q) (suffix_bytes dec pad (4 * q) s) ∙ and_from _ _ (groups dec s q table bytes p1.0) (last dec s pad (4 * q) table bytes))
