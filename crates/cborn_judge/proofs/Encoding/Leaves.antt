-- Items without children, and strings.
use Rattle.std.specs.Prelude.{◌≡◌, ◌<◌, ◌^◌, ◌++◌, ◌↔◌, ◌+◌, ◌∷◌}
use Rattle.cborn_judge.proofs.Common.{arith, ℕ, inl, inr, List, append_assoc, length, refl, sym, ap, ◌∙◌, subst, true, false, true≢false, Bool, not, Ordering, IsTrue, Width, StringKind, OfBytes, OfText, AreBytes, place, bytes, text, Partial, string_tree, TakesItem, TakesString, Mark, IsEncodedAs, Coded, Stands, is_chunks, kept, IsContent, IsChunk, IsChunkContent, IsStringFront, StandsAs, Written, Encodings, OpenString, Level, bytes-append, Option, None, IsUtf8, InvalidReason, NotUtf8, WidthFits, IsLeastHead, is_simple_value, Tree, Text, Simple, IsNumber, integer, simple, put, integer_tree, defect_rank, flaw_rank, major_of, FlawAt, Flaw, DefectAt, FindsDefect, LongAt, DefectIn, IsEarliestDefect, FindsFlaw, IsEarliestFlaw, Finds, found_alike, magnitude_of, SomeDefect, SomeFlaw, [], IsUtf8-nil, code, head_bytes, least, Uint, Nint, Bytes, IsShortLeaf, AreShortIntegers, text_in, puts, AreEncodedAs, kind_major, simple_fits, holds_below}
use Rattle.cborn_model.specs.shared.Runs.{IsInteger}
use Rattle.cborn_judge.proofs.Encoding.Finding.{finds_put}
use Rattle.cborn_judge.proofs.Encoding.PairsHinted.{none_first}
use Rattle.cborn_judge.proofs.FirstDefect.{leaf_found}
use Rattle.cborn_judge.proofs.Loops.{same}
use Rattle.cborn_judge.proofs.Meaning.Meanings.{number_valid}

-- ---- a string that ends in what an encoder holds

pub string_place : (p : ℕ) (k : StringKind) (w : Width) (x : List ℕ) → place (string_tree p k w x) ≡ p
string_place p OfBytes w x = refl
string_place p OfText w x = refl

module _ (order : List ℕ → List ℕ → Ordering) where
  pub no_chunks : (outer : List Level) (l : Level) (f : Partial) (ms : List Mark) (y : List ℕ) → Stands order outer l f ms y → is_chunks l ≡ false → TakesItem f
  no_chunks outer l f ms y h1 h2 = grind arith

  -- with the next bytes of its content
  pub written_more : (e n : Encodings) (s : OpenString) (f : Partial) (y h x b : List ℕ) → Written order e s f y h x → n.out.items ≡ e.out.items ++ b → n.innermost ≡ e.innermost → StandsAs order n f y → AreBytes b → Written order n s f y h (x ++ b)
  written_more e n s f y h x b w out same stands are = grind (arith, append_assoc, bytes-append)

  pub string_encoded : (p : ℕ) (k : StringKind) (w : Width) (n : ℕ) (h x : List ℕ) → IsStringFront false k n h → length x ≡ n → n < 2 ^ 64 → AreBytes x → IsContent k x → IsEncodedAs order (string_tree p k w x) (h ++ x)
  string_encoded p OfBytes w n h x front len short are content = (bytes x, refl, (are, subst (λ m. m < 2 ^ 64) (sym len) short), (h, subst (λ m. IsStringFront false OfBytes m h) (sym len) front, refl))
  string_encoded p OfText w n h x front len short are content = (text x, (content, refl), (content, subst (λ m. m < 2 ^ 64) (sym len) short), (h, subst (λ m. IsStringFront false OfText m h) (sym len) front, refl))

  pub string_coded : (p : ℕ) (k : StringKind) (w : Width) (n : ℕ) (h x : List ℕ) (good : Bool) → IsStringFront false k n h → length x ≡ n → n < 2 ^ 64 → AreBytes x → IsTrue good ↔ IsContent k x → Coded order (string_tree p k w x) (kept good (h ++ x))
  string_coded p k w n h x true front len short are is = inl (string_encoded p k w n h x front len short are (is.0 refl))
  string_coded p OfBytes w n h x false front len short are is = absurd (true≢false (sym (is.1 tt)))
  string_coded p OfText w n h x false front len short are is = inr (refl, λ v m. true≢false (sym (is.1 m.0)))

  chunk_content : (k : StringKind) (good : Bool) (x : List ℕ) → IsTrue good ↔ IsContent k x → IsChunkContent (not good) k x (kept good x)
  chunk_content k good x h1 = grind (arith, true≢false)

  pub chunk_there : (outer : List Level) (l : Level) (f : Partial) (ms : List Mark) (y : List ℕ) (p : ℕ) (k : StringKind) (w : Width) (x : List ℕ) (good : Bool) → Stands order outer l f ms y → is_chunks l ≡ true → TakesString f k → IsTrue good ↔ IsContent k x
      → IsChunk f (string_tree p k w x) (not good) (kept good x)
  chunk_there outer l f ms y p k w x good h1 h2 h3 h4 = grind (arith, chunk_content)

-- ---- integers, simple values and strings in what an encoder holds

pub integer_place : (p : ℕ) (s : Bool) (w : Width) (n : ℕ) → place (integer_tree p s w n) ≡ p
integer_place p s w n = grind arith

pub sound_integer : (p : ℕ) (s : Bool) (w : Width) (n q : ℕ) (r : InvalidReason) → Flaw (integer_tree p s w n) q r → ⊥
sound_integer p s w n q r h1 = grind arith

module _ (order : List ℕ → List ℕ → Ordering) where
  pub integer_encoded : (p : ℕ) (s : Bool) (w : Width) (n : ℕ) (x : List ℕ) → WidthFits w n → IsLeastHead (major_of s) n x → IsEncodedAs order (integer_tree p s w n) x
  integer_encoded p false w n x fits h =
      let m = magnitude_of n in
      let below = holds_below w n fits in
      let number : IsNumber false n (integer false m.0) = (m.0, m.1, m.2, m.3, refl) in
      (integer false m.0, number, number_valid false n (integer false m.0) number below, inl (subst (λ k. k < 2 ^ 64) (sym m.3) below, subst (λ k. IsLeastHead 0 k x) (sym m.3) h))
  integer_encoded p true w n x fits h =
      let m = magnitude_of n in
      let below = holds_below w n fits in
      let number : IsNumber true n (integer true m.0) = (m.0, m.1, m.2, m.3, refl) in
      (integer true m.0, number, number_valid true n (integer true m.0) number below, inl (subst (λ k. k < 2 ^ 64) (sym m.3) below, subst (λ k. IsLeastHead 1 k x) (sym m.3) h))

  pub integer_defect : (p : ℕ) (s : Bool) (w : Width) (n : ℕ) (o : Option SomeDefect) → FindsDefect (LongAt p w n) o → FindsDefect (DefectIn order (integer_tree p s w n)) o
  integer_defect p s w n o h1 = grind (arith, leaf_found, same)

  pub finds_integer : (f : Partial) (p : ℕ) (s : Bool) (w : Width) (n : ℕ) (a : Option SomeFlaw) (d e i : Option SomeDefect) → FindsDefect (LongAt p w n) e → IsEarliestDefect d e i → Finds order f a d → Finds order (put f (integer_tree p s w n)) a i
  finds_integer f p s w n a d e i h k g = finds_put order f (integer_tree p s w n) a None a d e i (sound_integer p s w n) (integer_defect p s w n e h) (none_first (λ f. (f.place, flaw_rank f.reason)) a) k g

  pub simple_encoded : (p n : ℕ) (x : List ℕ) → IsTrue (is_simple_value n) → IsLeastHead 7 n x → IsEncodedAs order (Simple p n) x
  simple_encoded p n x is h = (simple n, refl, is, (is, h))

  pub sound_simple : (p n : ℕ) → FindsFlaw (Flaw (Simple p n)) None
  sound_simple p n q r h = subst (λ z. FlawAt z q r) h.1 h.2

  pub simple_defect : (p n : ℕ) → FindsDefect (DefectIn order (Simple p n)) None
  simple_defect p n q r h = subst (λ z. DefectAt order z q r) h.1 h.2

  -- a node with which nothing is wrong
  pub finds_fine : (f : Partial) (t : Tree) (a : Option SomeFlaw) (d : Option SomeDefect) → FindsFlaw (Flaw t) None → FindsDefect (DefectIn order t) None → Finds order f a d → Finds order (put f t) a d
  finds_fine f t a d none sound g = finds_put order f t a None a d None d none sound (none_first (λ f. (f.place, flaw_rank f.reason)) a) (none_first (λ e. (e.place, defect_rank e.reason)) d) g

  pub string_flaw : (p : ℕ) (k : StringKind) (w : Width) (x : List ℕ) (good : Bool) (o : Option SomeFlaw) → IsTrue good ↔ IsContent k x → FindsFlaw (λ q r. (q ≡ p) × (r ≡ NotUtf8) × (good ≡ false)) o → FindsFlaw (Flaw (string_tree p k w x)) o
  string_flaw p OfBytes w x good o is h = grind (arith, found_alike)
  string_flaw p OfText w x good o is h =
      found_alike flaw_rank (λ f. f.place) (λ f. f.reason) (λ q r. (q ≡ p) × (r ≡ NotUtf8) × (good ≡ false)) (Flaw (string_tree p OfText w x)) o
      (λ q r. ((λ b. (Text p w x, refl, (b.0, b.1, λ u. true≢false (sym (is.1 u) ∙ b.2)))), (λ f. let g = subst (λ z. FlawAt z q r) f.1 f.2 in (g.0, g.1, not_good good is g.2)))) h
    where
      not_good : (b : Bool) → IsTrue b ↔ IsUtf8 x → (IsUtf8 x → ⊥) → b ≡ false
      not_good false i n = refl
      not_good true i n = absurd (n (i.0 refl))

  pub string_defect : (p : ℕ) (k : StringKind) (w : Width) (x : List ℕ) (o : Option SomeDefect) → FindsDefect (LongAt p w (length x)) o → FindsDefect (DefectIn order (string_tree p k w x)) o
  string_defect p k w x o h1 = grind (arith, leaf_found, same)

  pub finds_string : (f : Partial) (p : ℕ) (k : StringKind) (w : Width) (n : ℕ) (x : List ℕ) (good : Bool) (a b o : Option SomeFlaw) (d e i : Option SomeDefect) → length x ≡ n → IsTrue good ↔ IsContent k x
      → FindsFlaw (λ q r. (q ≡ p) × (r ≡ NotUtf8) × (good ≡ false)) b → FindsDefect (LongAt p w n) e → IsEarliestFlaw a b o → IsEarliestDefect d e i → Finds order f a d → Finds order (put f (string_tree p k w x)) o i
  finds_string f p k w n x good a b o d e i len is h j g l s =
      finds_put order f (string_tree p k w x) a b o d e i (string_flaw p k w x good b is h) (string_defect p k w x e (subst (λ m. FindsDefect (LongAt p w m) e) (sym len) j)) g l s

-- ---- leaves with the shortest heads: their encodings are the bytes as spelled, and nothing is wrong with them but a text that isn't UTF-8

least_head : (major : ℕ) (w : Width) (n : ℕ) (x : List ℕ) → WidthFits w n → w ≡ least n → head_bytes major w n ≡ x → IsLeastHead major n x
least_head major w n x fits short e = (subst (λ v. WidthFits v n) short fits, sym e ∙ ap (λ v. head_bytes major v n) short)

pub integer_text : (t : Tree) → IsInteger t → IsUtf8 (text_in t)
integer_text (Uint p w n) i = IsUtf8-nil
integer_text (Nint p w n) i = IsUtf8-nil
integer_text t i = absurd i

module _ (order : List ℕ → List ℕ → Ordering) where
  -- x is the encoding of the node, and nothing is wrong with it
  abbrev pub IsFine : Tree → List ℕ → Type 0
  IsFine t x = IsEncodedAs order t x × FindsFlaw (Flaw t) None × FindsDefect (DefectIn order t) None

  short_integer : (p : ℕ) (s : Bool) (w : Width) (n : ℕ) (x : List ℕ) → WidthFits w n → w ≡ least n → head_bytes (major_of s) w n ≡ x → IsFine (integer_tree p s w n) x
  short_integer p s w n x h1 h2 h3 = grind (arith, integer_defect, integer_encoded, least_head, sound_integer)

  short_string : (p : ℕ) (k : StringKind) (w : Width) (b x : List ℕ) → WidthFits w (length b) → AreBytes b → w ≡ least (length b) → head_bytes (code (kind_major k)) w (length b) ++ b ≡ x → IsContent k b → IsFine (string_tree p k w b) x
  short_string p k w b x fits are short e content =
      let h = head_bytes (code (kind_major k)) w (length b) in (
        subst (IsEncodedAs order (string_tree p k w b)) e (string_encoded order p k w (length b) h b (least_head (code (kind_major k)) w (length b) h fits short refl) refl (holds_below w (length b) fits) are content),
        string_flaw order p k w b true None ((λ i. content), (λ c. refl)) (λ q r f. true≢false f.2),
        string_defect order p k w b None (λ q r d. d.2 short),
      )

  pub short_leaf : (p : ℕ) (x : List ℕ) (t : Tree) → IsShortLeaf p x t → IsUtf8 (text_in t) → IsFine t x
  short_leaf p x (Uint q w n) l u = short_integer q false w n x l.fits l.short l.spells
  short_leaf p x (Nint q w n) l u = short_integer q true w n x l.fits l.short l.spells
  short_leaf p x (Bytes q w b) l u = short_string q OfBytes w b x l.fits.0 l.fits.1 l.short l.spells tt
  short_leaf p x (Text q w b) l u = short_string q OfText w b x l.fits.0 l.fits.1 l.short l.spells u
  short_leaf p x (Simple q n) l u = (simple_encoded order q n x l.fits (simple_fits n l.fits, sym l.spells), sound_simple order q n, simple_defect order q n)
  short_leaf p x t l u = absurd l.short

  -- ---- integers one after another

  pub short_encoded : (p : ℕ) (x : List ℕ) (ts : List Tree) → AreShortIntegers p x ts → AreEncodedAs order ts x
  short_encoded p x [] e = ([], tt, tt, e)
  short_encoded p x (t ∷ ts) (y, z, e, i, l, rest) =
      let a = (short_leaf p y t l (integer_text t i)).0 in
      let b = short_encoded (p + length y) z ts rest in
      (a.0 ∷ b.0, (a.1, b.1), (a.2, b.2), (y, z, a.3, b.3, e))

  pub finds_short : (f : Partial) (p : ℕ) (x : List ℕ) (ts : List Tree) (a : Option SomeFlaw) (d : Option SomeDefect) → AreShortIntegers p x ts → Finds order f a d → Finds order (puts f ts) a d
  finds_short f p x [] a d e g = g
  finds_short f p x (t ∷ ts) a d (y, z, e, i, l, rest) g =
      let s = short_leaf p y t l (integer_text t i) in
      finds_short (put f t) (p + length y) z ts a d rest (finds_fine order f t a d s.1 s.2 g)
