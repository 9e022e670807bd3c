-- Each text that isn't empty begins with something.
use Rattle.std.specs.Prelude.{◌≡◌, ◌∷◌, ◌++◌, ◌&&◌, ◌⊎◌}
use Rattle.cborn_lex.proofs.Common.{refl, sym, ap, ◌∙◌, subst, ℕ, List, [], Bool, true, false, eqb, inl, inr, Option, append_assoc, append-nil, and_parts, eqb-true, list_all-append, list_all, bytes_eq, codes, Profile, Two, Mark, LexReason, UnclosedString, UnexpectedCharacter, BadEscape, BadHex, BadBase64, Class, EmbedClose, EmbedOpen, SimpleOpen, Text, Bytes, Front, Read, Bad, is_word, is_numeral, is_not, mark_of, marked, integer, number_front, word_front, IsText, IsHex, IsBase64, IsRun, IsIndicator, Lacks, ContentGives, IsString, Prefix, hexadecimal, base64, unknown, prefix_of, IsPrefixed, IsAfterWord, ReadsWord, IsTag, ReadsNumber, double, simple, Start, slash, hash, less, greater, paren, letter, minus, digit, opening, start_of, paren_front, ReadsFrom, Reads}
use Rattle.cborn_lex.specs.Forms.{Through}
use Rattle.cborn_lex.proofs.OneFront.Runs.{cut, marks, Found, plain}
use Rattle.cborn_lex.proofs.OneFront.Quotes.{quoted}
use Rattle.cborn_lex.proofs.Contents.Texts.{text_cases}
use Rattle.cborn_lex.proofs.Contents.Hexes.{hex_cases}
use Rattle.cborn_lex.proofs.Contents.Decoded.{are_bytes, is_byte}
use Rattle.cborn_lex.proofs.Contents.Base64s.{base64_cases}
use Rattle.cborn_lex.proofs.GoodBack.{and_false}

-- a front of y at which P holds of the front, what follows, and what it is
pub record Started (P : List ℕ → List ℕ → Front → Type 0) (y : List ℕ) : Type 0 where
  pub s : List ℕ
  pub z : List ℕ
  pub a : Front
  pub whole : y ≡ s ++ z
  pub reads : P s z a

fixed : (y : List ℕ) (f : Front) → Started (λ s z a. (s ≡ []) × (a ≡ f)) y
fixed y f = record { s = []; z = y; a = f; whole = refl; reads = (refl, refl) }

-- up to a character, or to the end
abbrev pub UpTo : ℕ → Front → Front → List ℕ → List ℕ → Front → Type 0
UpTo q f g s z a = ((body : List ℕ) × Through q body s × (a ≡ f)) ⊎ (Lacks q s z × (a ≡ g))

up_to_from : (q : ℕ) (f g : Front) (y : List ℕ) → Found (list_all (is_not q)) q y ⊎ (list_all (is_not q) y ≡ true) → Started (UpTo q f g) y
up_to_from q f g y (inl r) =
    record { s = r.content ++ q ∷ []; z = r.after; a = f; whole = r.text ∙ sym (append_assoc r.content (q ∷ []) r.after); reads = inl (r.content, record { none = r.inside; whole = refl }, refl) }
up_to_from q f g y (inr h) = record { s = y; z = []; a = g; whole = sym (append-nil y); reads = inr (record { none = h; all = refl }, refl) }

up_to : (q : ℕ) (f g : Front) (y : List ℕ) → Started (UpTo q f g) y
up_to q f g y = up_to_from q f g y ((plain q).find y)

-- Strings.

pub record ContentFound (Is : List ℕ → Type 0) (r : LexReason) (k : List ℕ → Mark → Class) (m : Option Mark) : Type 0 where
  pub a : Front
  pub gives : ContentGives Is r k m a

content_found : (Is : List ℕ → Type 0) (r : LexReason) (k : List ℕ → Mark → Class) (m : Option Mark) → ((bytes : List ℕ) × Is bytes) ⊎ ((bytes : List ℕ) → Is bytes → ⊥) → ContentFound Is r k m
content_found Is r k m (inl (bytes, is)) = record { a = marked (k bytes) m; gives = inl (bytes, is, refl) }
content_found Is r k m (inr f) = record { a = Bad r; gives = inr (f, refl) }

module _ (whole unclosed : List ℕ → Bool) (q : ℕ) (Is : List ℕ → List ℕ → Type 0) (r : LexReason) (k : List ℕ → Mark → Class) where
  string_from : (y : List ℕ) → Found whole q y ⊎ (unclosed y ≡ true) → ((x z : List ℕ) → y ≡ x ++ z → ((bytes : List ℕ) × Is x bytes) ⊎ ((bytes : List ℕ) → Is x bytes → ⊥)) → Started (IsString whole unclosed q Is r k) y
  string_from y (inl f) cases =
      let m = marks f.after in
      let t = content_found (Is f.content) r k (mark_of m.s) (cases f.content (q ∷ f.after) f.text) in
      record {
        s = f.content ++ q ∷ m.s;
        z = m.z;
        a = t.a;
        whole = f.text ∙ (ap (λ x. f.content ++ q ∷ x) m.whole ∙ sym (append_assoc f.content (q ∷ m.s) m.z));
        reads = inl (f.content, m.s, record { inside = f.inside; text = refl; indicator = m.indicator }, t.gives);
      }
  string_from y (inr h) cases = record { s = y; z = []; a = Bad UnclosedString; whole = sym (append-nil y); reads = inr (h, refl, refl) }

prefixed : (p : Prefix) (y : List ℕ) → are_bytes y ≡ true → Started (IsPrefixed p) y
prefixed hexadecimal y h = string_from _ _ 39 IsHex BadHex (Bytes false) y ((plain 39).find y) (λ x z e. hex_cases x)
prefixed base64 y h = string_from _ _ 39 IsBase64 BadBase64 (Bytes false) y ((plain 39).find y) (λ x z e. base64_cases x (and_parts _ _ (sym (list_all-append is_byte x z) ∙ (ap are_bytes (sym e) ∙ h))).0)
prefixed unknown y h = fixed y _

-- Words.

after_from : (word : List ℕ) (c : ℕ) (y : List ℕ) → are_bytes y ≡ true → (b : Bool) → eqb c 39 ≡ b → (d : Bool) → (bytes_eq word (codes "simple") && eqb c 40) ≡ d → Started (IsAfterWord word) (c ∷ y)
after_from word c y h true e d f =
    let r = prefixed (prefix_of word) y h in
    record { s = c ∷ r.s; z = r.z; a = r.a; whole = ap (λ x. c ∷ x) r.whole; reads = inl (e, r.reads) }
after_from word c y h false e true f =
    let fs = and_parts _ _ f in
    record { s = c ∷ []; z = y; a = Read SimpleOpen; whole = refl; reads = inr (fs.1, fs.0, refl, refl) }
after_from word c y h false e false f = record { s = []; z = c ∷ y; a = word_front word; whole = refl; reads = (e, f, refl) }

after_word : (word : List ℕ) (y : List ℕ) → are_bytes y ≡ true → Started (IsAfterWord word) y
after_word word [] h = record { s = []; z = []; a = word_front word; whole = refl; reads = (refl, and_false (bytes_eq word (codes "simple")), refl) }
after_word word (c ∷ y) h = after_from word c y (and_parts _ _ h).1 (eqb c 39) refl (bytes_eq word (codes "simple") && eqb c 40) refl

words : (c : ℕ) (y : List ℕ) → are_bytes y ≡ true → Started (ReadsWord c) y
words c y h =
    let r = cut is_word y in
    let t = after_word (c ∷ r.s) r.z (and_parts _ _ (sym (list_all-append is_byte r.s r.z) ∙ (ap are_bytes (sym r.whole) ∙ h))).1 in
    record { s = r.s ++ t.s; z = t.z; a = t.a; whole = r.whole ∙ (ap (λ x. r.s ++ x) t.whole ∙ sym (append_assoc r.s t.s t.z)); reads = (r.s, t.s, subst (λ (x : List ℕ). IsRun is_word r.s x) t.whole r.run, refl, t.reads) }

-- Numbers.

abbrev pub Tagging : Bool → List ℕ → Type 0
Tagging negative y = (tagged : Bool) × (s : List ℕ) × (z : List ℕ) × (y ≡ s ++ z) × IsTag negative tagged s z

tagging_from : (c : ℕ) (y : List ℕ) (b : Bool) → eqb c 40 ≡ b → Tagging false (c ∷ y)
tagging_from c y true e = (true, c ∷ [], y, refl, (refl, refl, e, refl))
tagging_from c y false e = (false, [], c ∷ y, refl, (refl, e))

pub tagging : (negative : Bool) (y : List ℕ) → Tagging negative y
tagging true y = (false, [], y, refl, (refl, refl))
tagging false [] = (false, [], [], refl, (refl, refl))
tagging false (c ∷ y) = tagging_from c y (eqb c 40) refl

numbers : (negative : Bool) (first y : List ℕ) → Started (ReadsNumber negative first) y
numbers negative first y =
    let r = cut is_numeral y in
    let m = marks r.z in
    let t = tagging negative m.z in
    let after : r.z ≡ m.s ++ (t.1 ++ t.2) = m.whole ∙ ap (λ x. m.s ++ x) t.3 in
    record {
      s = r.s ++ (m.s ++ t.1);
      z = t.2;
      a = number_front negative t.0 (mark_of m.s) (integer negative (first ++ r.s));
      whole = r.whole ∙ (ap (λ x. r.s ++ x) after ∙ sym (simp append_assoc));
      reads = (
        t.0,
        r.s,
        m.s,
        t.1,
        record { run = subst (λ (x : List ℕ). IsRun is_numeral r.s x) after r.run; indicator = subst (λ (x : List ℕ). IsIndicator m.s x) t.3 m.indicator; tagging = t.4; whole = refl },
        refl,
      );
    }

-- All kinds.

indicated : (f : List ℕ → Front) (y : List ℕ) → Started (λ s z a. IsIndicator s z × (a ≡ f s)) y
indicated f y = let m = marks y in record { s = m.s; z = m.z; a = f m.s; whole = m.whole; reads = (m.indicator, refl) }

less_from : (profile : Profile) (b c : ℕ) (y : List ℕ) (t : Bool) → eqb c 60 ≡ t → Started (ReadsFrom less profile b) (c ∷ y)
less_from profile b c y true e = record { s = 60 ∷ []; z = y; a = Read EmbedOpen; whole = ap (λ d. d ∷ y) (eqb-true c 60 e); reads = inl (refl, refl) }
less_from profile b c y false e = record { s = []; z = c ∷ y; a = Bad UnexpectedCharacter; whole = refl; reads = inr (refl, e, refl) }

greater_from : (profile : Profile) (b c : ℕ) (y : List ℕ) (t : Bool) → eqb c 62 ≡ t → Started (ReadsFrom greater profile b) (c ∷ y)
greater_from profile b c y true e =
    let m = marks y in
    record { s = 62 ∷ m.s; z = m.z; a = marked EmbedClose (mark_of m.s); whole = ap (λ d. d ∷ y) (eqb-true c 62 e) ∙ ap (λ x. 62 ∷ x) m.whole; reads = inl (m.s, refl, m.indicator, refl) }
greater_from profile b c y false e = record { s = []; z = c ∷ y; a = Bad UnexpectedCharacter; whole = refl; reads = inr (refl, e, refl) }

pub some_from : (k : Start) (profile : Profile) (c : ℕ) (y : List ℕ) → are_bytes y ≡ true → Started (ReadsFrom k profile c) y
some_from slash profile c y h = up_to 47 _ _ y
some_from hash Two c y h = up_to 10 _ _ y
some_from (opening l) profile c y h = indicated (λ s. marked l (mark_of s)) y
some_from less profile c [] h = record { s = []; z = []; a = Bad UnexpectedCharacter; whole = refl; reads = inr (refl, refl, refl) }
some_from less profile c (d ∷ y) h = less_from profile c d y (eqb d 60) refl
some_from greater profile c [] h = record { s = []; z = []; a = Bad UnexpectedCharacter; whole = refl; reads = inr (refl, refl, refl) }
some_from greater profile c (d ∷ y) h = greater_from profile c d y (eqb d 62) refl
some_from paren profile c y h = indicated paren_front y
some_from double profile c y h = string_from _ _ 34 (IsText 34) BadEscape Text y ((quoted 34 refl).find y) (λ x z e. text_cases 34 x)
some_from simple profile c y h = string_from _ _ 39 (IsText 39) BadEscape (Bytes true) y ((quoted 39 refl).find y) (λ x z e. text_cases 39 x)
some_from minus profile c y h = numbers true [] y
some_from digit profile c y h = numbers false (c ∷ []) y
some_from letter profile c y h = words c y h
some_from _ _ c y h = fixed y _

pub some_front : (profile : Profile) (c : ℕ) (y : List ℕ) → are_bytes (c ∷ y) ≡ true → Started (Reads profile) (c ∷ y)
some_front profile c y h =
    let r = some_from (start_of c) profile c y (and_parts _ _ h).1 in
    record { s = c ∷ r.s; z = r.z; a = r.a; whole = ap (λ x. c ∷ x) r.whole; reads = r.reads }
