-- A content of h'..' stands for some bytes or for none.
use Rattle.cborn_lex.proofs.Common.{arith, IfOk, refl, sym, ap, ◌∙◌, subst, ℕ, List, [], length, take, drop, get_or, Bool, true, false, not, cond, eqb, inl, inr, Option, Some, None, Result, Ok, Err, append_assoc, length-append, drop_more, drop_all, cond-true, cond-false, and_parts, and_from, eqb-true, not-true, list_all, is_digit, is_not, is_white, onto, strip, after, HasDigits, nothing, space, comment, IsHex}
use Rattle.std.specs.Prelude.{◌/◌, MatchResult, ◌≡◌, ◌+◌, ◌<◌, ◌≤◌, ◌∷◌, ◌++◌, ◌⊎◌}
use Rattle.std.specs.Result.{is_ok}
use Rattle.std.proofs.Math.Seq.{take-append_seam}
use Rattle.hex.specs.Hex.{decode_of, decode_sized}
use Rattle.hex.specs.declared.error.FromHexError.{FromHexError}
use Rattle.cborn_lex.specs.Strings.{digit}

white_no_digit : (c : ℕ) → is_white c ≡ true → is_digit c 16 ≡ false
white_no_digit c h1 = grind arith

strip_comment : (body x : List ℕ) → list_all (is_not 47) body ≡ true → strip true (body ++ 47 ∷ x) ≡ strip false x
strip_comment [] x h = refl
strip_comment (c ∷ body) x h = let hs = and_parts (is_not 47 c) (list_all (is_not 47) body) h in cond-false (eqb c 47) _ _ (not-true _ hs.0) ∙ strip_comment body x hs.1

pub strip_is : {x ds : List ℕ} → HasDigits x ds → strip false x ≡ Some ds
strip_is nothing = refl
strip_is (digit c x ds h k) = cond-true (is_digit c 16) _ _ h ∙ ap (onto c) (strip_is k)
strip_is (space c x ds h k) = cond-false (is_digit c 16) _ _ (white_no_digit c h) ∙ (cond-true (is_white c) _ _ h ∙ strip_is k)
strip_is (comment body x ds h k) = strip_comment body x h ∙ strip_is k

-- what a strip says of what follows a slash
pub record Inside (x ds : List ℕ) : Type 0 where
  pub body : List ℕ
  pub none : list_all (is_not 47) body ≡ true
  pub after : List ℕ
  pub whole : x ≡ body ++ 47 ∷ after
  pub digits : HasDigits after ds

abbrev pub Stripped : Bool → List ℕ → Option (List ℕ) → Type 0
Stripped b x None = Unit {0}
Stripped false x (Some ds) = HasDigits x ds
Stripped true x (Some ds) = Inside x ds

chosen : (i : Bool) (x : List ℕ) (b : Bool) (r s : Option (List ℕ)) → (b ≡ true → Stripped i x r) → (b ≡ false → Stripped i x s) → Stripped i x (cond b r s)
chosen i x b r s h1 h2 = grind arith

digit_more : (c : ℕ) (x : List ℕ) (o : Option (List ℕ)) → is_digit c 16 ≡ true → Stripped false x o → Stripped false (c ∷ x) (onto c o)
digit_more c x o h1 h2 = grind (arith, digit)

space_more : (c : ℕ) (x : List ℕ) (o : Option (List ℕ)) → is_white c ≡ true → Stripped false x o → Stripped false (c ∷ x) o
space_more c x o h1 h2 = grind (arith, space)

comment_begins : (c : ℕ) (x : List ℕ) (o : Option (List ℕ)) → eqb c 47 ≡ true → Stripped true x o → Stripped false (c ∷ x) o
comment_begins c x o h1 h2 = grind (arith, after, comment, eqb-true)

comment_ends : (c : ℕ) (x : List ℕ) (o : Option (List ℕ)) → eqb c 47 ≡ true → Stripped false x o → Stripped true (c ∷ x) o
comment_ends c x None h k = tt
comment_ends c x (Some ds) h k = record { body = []; none = refl; after = x; whole = ap (λ d. d ∷ x) (eqb-true c 47 h); digits = k }

comment_more : (c : ℕ) (x : List ℕ) (o : Option (List ℕ)) → eqb c 47 ≡ false → Stripped true x o → Stripped true (c ∷ x) o
comment_more c x None h k = tt
comment_more c x (Some ds) h k = record { body = c ∷ k.body; none = and_from _ _ (ap not h) k.none; after = k.after; whole = ap (λ y. c ∷ y) k.whole; digits = k.digits }

pub strips : (i : Bool) (x : List ℕ) → Stripped i x (strip i x)
strips false [] = nothing
strips true [] = tt
strips true (c ∷ x) = chosen true _ (eqb c 47) _ _ (λ h. comment_ends c x _ h (strips false x)) (λ h. comment_more c x _ h (strips true x))
strips false (c ∷ x) =
    chosen false _ (is_digit c 16) _ _ (λ h. digit_more c x _ h (strips false x))
    (λ h. chosen false _ (is_white c) _ _ (λ k. space_more c x _ k (strips false x))
    (λ k. chosen false _ (eqb c 47) _ _ (λ l. comment_begins c x _ l (strips true x)) (λ l. tt)))

pub hex_one : (x b d : List ℕ) → IsHex x b → IsHex x d → b ≡ d
hex_one x b d h1 h2 = grind (arith, strip_is)

pub hex_no_digits : (x : List ℕ) → strip false x ≡ None → (bytes : List ℕ) → IsHex x bytes → ⊥
hex_no_digits x e bytes h = let l = strip_is h.1 in cc

pub hex_err : (x ds : List ℕ) (f : FromHexError) → strip false x ≡ Some ds → decode_of ds ≡ Err f → (bytes : List ℕ) → IsHex x bytes → ⊥
hex_err x ds f h1 h2 bytes h3 = grind (arith, strip_is)

hex_decoded : (x ds : List ℕ) (r : Result (List ℕ) FromHexError) → strip false x ≡ Some ds → HasDigits x ds → decode_of ds ≡ r → ((bytes : List ℕ) × IsHex x bytes) ⊎ ((bytes : List ℕ) → IsHex x bytes → ⊥)
hex_decoded x ds (Ok bytes) e k h = inl (bytes, (ds, k, h))
hex_decoded x ds (Err f) e k h = inr (hex_err x ds f e h)

hex_from : (x : List ℕ) (o : Option (List ℕ)) → strip false x ≡ o → Stripped false x o → ((bytes : List ℕ) × IsHex x bytes) ⊎ ((bytes : List ℕ) → IsHex x bytes → ⊥)
hex_from x None e k = inr (hex_no_digits x e)
hex_from x (Some ds) e k = hex_decoded x ds (decode_of ds) e k refl

pub hex_cases : (x : List ℕ) → ((bytes : List ℕ) × IsHex x bytes) ⊎ ((bytes : List ℕ) → IsHex x bytes → ⊥)
hex_cases x = hex_from x (strip false x) refl (strips false x)

-- For the code.

-- a content of digits alone
pub digits_alone : (x : List ℕ) → list_all (λ c. is_digit c 16) x ≡ true → strip false x ≡ Some x
digits_alone [] h = refl
digits_alone (c ∷ x) h = let hs = and_parts (is_digit c 16) (list_all (λ d. is_digit d 16) x) h in cond-true (is_digit c 16) _ _ hs.0 ∙ ap (onto c) (digits_alone x hs.1)

-- what the digits of a content say of it

pub hex_written : {E : Type 0} (x ds digits old new : List ℕ) (r : Result Bool E) → strip false x ≡ Some ds → digits ≡ ds → IfOk r (λ ok. ok ≡ true → (bytes : List ℕ) × (decode_of digits ≡ Ok bytes) × (new ≡ old ++ bytes)) → IfOk r (λ ok. ok ≡ true → (bytes : List ℕ) × IsHex x bytes × (new ≡ old ++ bytes))
hex_written x ds digits old new (Ok ok) e same h = λ t. let d = h t in (d.0, (ds, subst (Stripped false x) e (strips false x), ap decode_of (sym same) ∙ d.1), d.2)
hex_written x ds digits old new (Err f) e same h = h

pub hex_none : {E : Type 0} (x ds digits : List ℕ) (r : Result Bool E) → strip false x ≡ Some ds → digits ≡ ds → IfOk r (λ ok. ok ≡ false → (bytes : List ℕ) → decode_of digits ≡ Ok bytes → ⊥) → IfOk r (λ ok. ok ≡ false → (bytes : List ℕ) → IsHex x bytes → ⊥)
hex_none x ds digits r h1 h2 h3 = grind (arith, strip_is)

-- the bytes of digits, put where there is room for them

pub decoded_ok : (d new : List ℕ) (n : ℕ) (r : Result (Unit {0}) FromHexError) → length d / 2 ≡ n → is_ok r ≡ true → MatchResult (decode_sized d n) (λ bytes. (r ≡ Ok tt) × (new ≡ bytes)) (λ e. r ≡ Err e) → decode_of d ≡ Ok new
decoded_ok d new n r h1 h2 h3 = grind arith

pub appended : (old made rest items : List ℕ) (len : ℕ) → len ≡ length old + length made → take len ((old ++ (made ++ rest)) ++ items) ≡ old ++ made
appended old made rest items len e =
    let split : (old ++ (made ++ rest)) ++ items ≡ (old ++ made) ++ (rest ++ items) = ap (λ l. l ++ items) (sym (append_assoc old made rest)) ∙ append_assoc (old ++ made) rest items in
    (λ i. take ((e ∙ sym (length-append old made)) i) (split i)) ∙ take-append_seam (old ++ made) (rest ++ items)

-- The loop.

pub after_none : (o : Option (List ℕ)) → after [] o ≡ o
after_none o = grind arith

-- after all of it
pub at_end : (content ds : List ℕ) (at : ℕ) (i : Bool) → length content ≤ at → after ds (strip i (drop at content)) ≡ strip false content → strip false content ≡ after ds (strip i [])
at_end content ds at i h e = sym e ∙ ap (λ x. after ds (strip i x)) (drop_all at content h)

after_onto : (ds : List ℕ) (c : ℕ) (o : Option (List ℕ)) → after ds (onto c o) ≡ after (ds ++ c ∷ []) o
after_onto ds c o = grind (arith, append_assoc)

pub at_inside : (ds x : List ℕ) (c : ℕ) → after ds (strip true (c ∷ x)) ≡ after ds (strip (not (eqb c 47)) x)
at_inside ds x c = grind arith

pub at_digit : (ds x : List ℕ) (c : ℕ) → is_digit c 16 ≡ true → after ds (strip false (c ∷ x)) ≡ after (ds ++ c ∷ []) (strip false x)
at_digit ds x c h = ap (after ds) (cond-true (is_digit c 16) _ _ h) ∙ after_onto ds c (strip false x)

pub moved : (content ds es : List ℕ) (at : ℕ) (i j : Bool) (i' j' : Bool) → at < length content → i ≡ i' → j ≡ j' → after ds (strip i' (get_or content at 0 ∷ drop (at + 1) content)) ≡ after es (strip j' (drop (at + 1) content)) → after ds (strip i (drop at content)) ≡ strip false content
    → after es (strip j (drop (at + 1) content)) ≡ strip false content
moved content ds es at i j i' j' h1 h2 h3 h4 h5 = grind (arith, drop_more)
