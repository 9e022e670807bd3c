-- A content of b64'..' stands for some bytes or for none.
use Rattle.std.specs.Prelude.{◌≡◌, ◌∷◌, ◌⊎◌}
use Rattle.cborn_lex.proofs.Common.{arith, refl, ap, ◌∙◌, ℕ, zero, suc, List, [], map, replicate, Bool, true, cond, eqb, inl, inr, Result, Ok, Err, cond_both, and_parts, and_from, lt-ltb, list_all-append, filter, IsBytes, IsStrict, decode_of, standard, DecodeError, to_standard, filled, base64_text, IsBase64}
use Rattle.base64.proofs.EngineFacts.{decode_of-encode_of, decode_of_strict}
use Rattle.cborn_lex.proofs.Contents.Decoded.{is_byte, are_bytes, bytes_at, decoded_are_bytes}

pub bytes_from : (x : List ℕ) → IsBytes x → are_bytes x ≡ true
bytes_from [] h = refl
bytes_from (c ∷ x) h = and_from _ _ (lt-ltb c 256 (h 0)) (bytes_from x (λ i. h (suc i)))

bytes_filter : (p : ℕ → Bool) (x : List ℕ) → are_bytes x ≡ true → are_bytes (filter p x) ≡ true
bytes_filter p [] h = refl
bytes_filter p (c ∷ x) h =
    let hs = and_parts (is_byte c) (are_bytes x) h in
    let k = bytes_filter p x hs.1 in
    cond_both (p c) (c ∷ filter p x) (filter p x) (λ y. are_bytes y ≡ true) (λ e. and_from _ _ hs.0 k) (λ e. k)

bytes_map : (x : List ℕ) → are_bytes x ≡ true → are_bytes (map to_standard x) ≡ true
bytes_map [] h = refl
bytes_map (c ∷ x) h = let hs = and_parts (is_byte c) (are_bytes x) h in and_from _ _ (cond_both (eqb c 45) 43 (cond (eqb c 95) 47 c) (λ d. is_byte d ≡ true) (λ e. refl) (λ e. cond_both (eqb c 95) 47 c (λ d. is_byte d ≡ true) (λ f. refl) (λ f. hs.0))) (bytes_map x hs.1)

bytes_padding : (n : ℕ) → are_bytes (replicate n 61) ≡ true
bytes_padding zero = refl
bytes_padding (suc n) = bytes_padding n

bytes_filled : (x : List ℕ) → are_bytes x ≡ true → are_bytes (filled x) ≡ true
bytes_filled x h1 = grind (arith, and_from, are_bytes, bytes_padding, cond_both, is_byte, list_all-append)

bytes_text : (x : List ℕ) → are_bytes x ≡ true → IsBytes (base64_text x)
bytes_text x h1 = grind (arith, bytes_at, bytes_filled, bytes_filter, bytes_map)

strict : IsStrict standard
strict = (refl, refl)

ok_one : (b d : List ℕ) (r : Result (List ℕ) DecodeError) → r ≡ Ok b → r ≡ Ok d → b ≡ d
ok_one b d r h k = cc

ok_err : (b : List ℕ) (e : DecodeError) (r : Result (List ℕ) DecodeError) → r ≡ Ok b → r ≡ Err e → ⊥
ok_err b e r h k = cc

decodes : (x b : List ℕ) → IsBase64 x b → decode_of standard (base64_text x) ≡ Ok b
decodes x b h = ap (decode_of standard) h.value ∙ decode_of-encode_of standard b refl h.are_bytes

pub base64_one : (x b d : List ℕ) → IsBase64 x b → IsBase64 x d → b ≡ d
base64_one x b d h k = ok_one b d (decode_of standard (base64_text x)) (decodes x b h) (decodes x d k)

base64_from : (x : List ℕ) (r : Result (List ℕ) DecodeError) → are_bytes x ≡ true → decode_of standard (base64_text x) ≡ r → ((bytes : List ℕ) × IsBase64 x bytes) ⊎ ((bytes : List ℕ) → IsBase64 x bytes → ⊥)
base64_from x (Ok b) h e = inl (b, record { are_bytes = bytes_at b (decoded_are_bytes standard (base64_text x) b (bytes_text x h) e); value = decode_of_strict standard (base64_text x) b strict (bytes_text x h) e })
base64_from x (Err f) h e = inr (λ b t. ok_err b f (decode_of standard (base64_text x)) (decodes x b t) e)

pub base64_cases : (x : List ℕ) → are_bytes x ≡ true → ((bytes : List ℕ) × IsBase64 x bytes) ⊎ ((bytes : List ℕ) → IsBase64 x bytes → ⊥)
base64_cases x h = base64_from x (decode_of standard (base64_text x)) h refl
