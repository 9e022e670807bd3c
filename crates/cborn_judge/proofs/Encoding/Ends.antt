-- What the end of a container, of a string in chunks or of a tag gives.
use Rattle.std.specs.Prelude.{◌≡◌, ◌+◌, ◌<◌, ◌^◌, ◌++◌, ◌-◌, ◌∷◌, ◌≢◌, ◌⊎◌, ◌≤◌, ◌||◌}
use Rattle.cborn_judge.proofs.Common.{ℕ, OnOk, Result, on_ok, IsFree, IsHeld, put, no_part, Finds, inl, inr, List, [], length, take, drop, refl, sym, ap, ◌∙◌, subst, arith, true, false, Bool, Option, None, Some, append_assoc, append-nil, length-append, drop_at, take_at, Ordering, AllZip-long, Size, IsLeastHead, Means, IsAll, Tree, Items, trees, array, values_of, value_count, Replaces, IsHeadFront, Coded, AreEncodedAs, IsSound, MeansNothing, values_of_seq, AllZip, StringKind, OfBytes, OfText, AreBytes, code, joined_chunks, ChunksAreText, AreStrings, chunks_of, chunks_tree, Bytes, Text, Value, bytes, text, FindsDefect, kind_major, bytes-right, Bor, eqb, slice_range, MatchOption, unwrap_or, take_all, Width, BadBignum, IsShortest, big_endian, IsByteString, last_of, Tagged, IsProper, integer, tagged, Det, IsInteger, bignum_tag, LongAt, FlawAt, LooseAt, FindsFlaw, IsEncodedAs, tags, Either, SomeDefect, true≢false, Partial, inside, Ends, Opening, an_array, a_map, a_tag, in_chunks, Mark, Opens, Inner, Stands, marks_of, StandsIn, EndsWell, HasEnded, Encodings, Container, Level, suc, is_some, IsKeyOrder, paired, ended_size, built, flaw_rank, entries, IsEarliestDefect, DescentAt, SizeAt, RepeatFlaw, DuplicateKey, HasRepeat, Row, AreMarked, RowRepeat, AreFilled, RowDescent, FindsDescent, AreArranged, AreRows, IsFront, OwnFlaw, OwnDefect, found_alike, SomeFlaw}
use Rattle.cborn_model.proofs.Listed.Meanings.{all_mean, each_means, are_proper}
use Rattle.cborn_model.proofs.Listed.Values.{value_count-values_of}
use Rattle.cborn_judge.specs.devices.Encoders.{Closes}
use Rattle.cborn_judge.specs.declared.encoders.Encoder.{Encoder}
use Rattle.cborn_judge.specs.declared.ends.Findings.{Findings}
use Rattle.cborn_judge.proofs.Meaning.Meanings.{joined_text, string_means, means_string, means_once}
use Rattle.cborn_judge.proofs.Meaning.Judging.{no_repeat}
use Rattle.cborn_judge.proofs.FirstDefect.{alike, both_found}
use Rattle.cborn_judge.proofs.Encoding.MapsRows.{IsRow, sound_paired, paired_sound, paired_rows, written, map_encoded, repeats, descents}

-- ---- how containers end: what the nodes in them mean, the head in the place of a front, and arrays

-- ---- heads

-- what is cut off is all but the front x
pub cut : (start : ℕ) (x z old new : List ℕ) → old ≡ x ++ z → start ≡ length x → new ≡ take start old → new ≡ x ++ []
cut start x z old new e s k = k ∙ ap (take start) e ∙ take_at x z start (sym s) ∙ sym (append-nil x)

-- the head stands there, or takes the place of the byte
pub headed : (major n : ℕ) (count : Option ℕ) (start : ℕ) (x front contents old new : List ℕ) → old ≡ x ++ (front ++ contents) → start ≡ length x → IsHeadFront major count front → IsAll count n
    → ((k : ℕ) → count ≡ Some k → new ≡ old) → (count ≡ None → start < length old → Replaces (IsLeastHead major n) start old new)
    → (h : List ℕ) × IsLeastHead major n h × (new ≡ x ++ (h ++ contents))
headed major n (Some k) start x front contents old new e s f l known set = (front, subst (λ m. IsLeastHead major m front) (sym l) f, known k refl ∙ e)
headed major n None start x front contents old new e s f l known set =
    let r = set refl (omega (arith, ap length e, length-append x (front ++ contents), length-append front contents)) in
    let before : take start old ≡ x = ap (take start) e ∙ take_at x (front ++ contents) start (sym s) in
    let after : drop (start + 1) old ≡ contents = ap (drop (start + 1)) (e ∙ sym (append_assoc x front contents)) ∙ drop_at (x ++ front) contents (start + 1) (omega (arith, length-append x front)) in
    (r.0, r.1, r.2 ∙ (λ i. (before i ++ r.0) ++ after i) ∙ append_assoc x r.0 contents)

-- ---- arrays

module _ (order : List ℕ → List ℕ → Ordering) where
  pub array_encoded : (p n : ℕ) (s : Size) (ts : List Tree) (h x : List ℕ) → n < 2 ^ 64 → n ≡ length ts → IsLeastHead 4 n h → AreEncodedAs order ts x → IsEncodedAs order (Items p s (trees ts)) (h ++ x)
  array_encoded p n s ts h x fits e l (vs, m, proper, d) =
      let count : n ≡ value_count (values_of vs) = e ∙ sym (AllZip-long Means ts vs m) ∙ sym (value_count-values_of vs) in
      (array (values_of vs), (values_of vs, all_mean ts vs m, refl), (are_proper vs proper, omega arith), (h, x, subst (λ k. IsLeastHead 4 k h) count l, values_of_seq order vs x d, refl))

  -- what an array leaves in the buffer
  pub array_ends : (flawed : Bool) (p n start : ℕ) (count : Option ℕ) (s : Size) (ts : List Tree) (x front contents old new : List ℕ) → n < 2 ^ 64 → IsAll count (length ts)
      → old ≡ x ++ (front ++ contents) → start ≡ length x → IsHeadFront 4 count front → IsSound flawed ts → (flawed ≡ false → AreEncodedAs order ts contents × (n ≡ length ts))
      → (flawed ≡ true → new ≡ take start old)
      → (flawed ≡ false → (m : ℕ) → count ≡ Some m → new ≡ old) → (flawed ≡ false → count ≡ None → start < length old → Replaces (IsLeastHead 4 n) start old new)
      → (c : List ℕ) × Coded order (Items p s (trees ts)) c × (new ≡ x ++ c)
  array_ends true p n start count s ts x front contents old new fits all e b f sound good flawed known set =
      ([], inr (refl, λ v m. let (ws, k) = each_means ts m.0 m.1 in sound ws k), cut start x (front ++ contents) old new e b (flawed refl))
  array_ends false p n start count s ts x front contents old new fits all e b f sound good flawed known set =
      let (coded, many) = good refl in
      let (h, least, whole) = headed 4 n count start x front contents old new e b f (subst (IsAll count) (sym many) all) (known refl) (set refl) in
      (h ++ contents, inl (array_encoded p n s ts h contents fits many least coded), whole)

-- ---- how strings of indefinite length end

-- ---- what chunks mean

bytes_mean : (ts : List Tree) → AreStrings OfBytes ts → (vs : List Value) × AllZip Means ts vs
bytes_mean [] h = ([], tt)
bytes_mean (Bytes p w x ∷ ts) h = let (vs, m) = bytes_mean ts h.1 in (bytes x ∷ vs, (refl, m))
bytes_mean (_ ∷ ts) h = absurd h.0

texts_mean : (ts : List Tree) → AreStrings OfText ts → ChunksAreText (chunks_of ts) → (vs : List Value) × AllZip Means ts vs
texts_mean [] h u = ([], tt)
texts_mean (Text p w x ∷ ts) h u = let (vs, m) = texts_mean ts h.1 u.1 in (text x ∷ vs, ((u.0, refl), m))
texts_mean (_ ∷ ts) h u = absurd h.0

are_texts : (ts : List Tree) (vs : List Value) → AreStrings OfText ts → AllZip Means ts vs → ChunksAreText (chunks_of ts)
are_texts [] vs h m = tt
are_texts (t ∷ ts) [] h m = absurd m
are_texts (Text p w x ∷ ts) (v ∷ vs) h m = (m.0.0, are_texts ts vs h.1 m.1)
are_texts (_ ∷ ts) (v ∷ vs) h m = absurd h.0

chunks_nothing : (p : ℕ) (k : StringKind) (ts : List Tree) → AreStrings k ts → IsSound true ts → MeansNothing (chunks_tree p k (chunks_of ts))
chunks_nothing p k ts h1 h2 = grind (arith, bytes_mean, texts_mean)

-- ---- what a string leaves in the buffer

pub contents_length : (start content : ℕ) (x front contents old : List ℕ) → old ≡ x ++ (front ++ contents) → start ≡ length x → content ≡ start + length front → length old - content ≡ length contents
contents_length start content x front contents old e s f = omega (arith, ap length e, length-append x (front ++ contents), length-append front contents)

module _ (order : List ℕ → List ℕ → Ordering) where
  chunks_coded : (p : ℕ) (k : StringKind) (ts : List Tree) (h x : List ℕ) → AreStrings k ts → IsSound false ts → AreBytes x → length x < 2 ^ 64 → x ≡ joined_chunks (chunks_of ts) → IsLeastHead (code (kind_major k)) (length x) h → Coded order (chunks_tree p k (chunks_of ts)) (h ++ x)
  chunks_coded p OfBytes ts h x strings sound all fits e l = inl (bytes x, ap bytes e, (all, fits), (h, l, refl))
  chunks_coded p OfText ts h x strings (vs, m) all fits e l = grind (arith, are_texts, joined_text)

  pub chunks_end : (flawed : Bool) (p n start : ℕ) (k : StringKind) (ts : List Tree) (x front contents old new : List ℕ) → n < 2 ^ 64 → n ≡ length contents → AreStrings k ts
      → old ≡ x ++ (front ++ contents) → start ≡ length x → length front ≡ 1 → AreBytes new → IsSound flawed ts → (flawed ≡ false → contents ≡ joined_chunks (chunks_of ts))
      → (flawed ≡ true → new ≡ take start old) → (flawed ≡ false → start < length old → Replaces (IsLeastHead (code (kind_major k)) n) start old new)
      → (c : List ℕ) × Coded order (chunks_tree p k (chunks_of ts)) c × (new ≡ x ++ c)
  chunks_end true p n start k ts x front contents old new fits many strings e b f all sound good flawed set =
      ([], inr (refl, chunks_nothing p k ts strings sound), cut start x (front ++ contents) old new e b (flawed refl))
  chunks_end false p n start k ts x front contents old new fits many strings e b f all sound good flawed set =
      let (h, least, whole) = headed (code (kind_major k)) n None start x front contents old new e b f tt (λ m i. cc) (λ i. set refl) in
      (h ++ contents, chunks_coded p k ts h contents strings sound (bytes-right h contents (bytes-right x (h ++ contents) (subst AreBytes whole all))) (omega arith) (good refl) (subst (λ m. IsLeastHead (code (kind_major k)) m h) many least), whole)

-- ---- how tags end, and bignums among them

-- ---- one node

sound_one : (t : Tree) (v : Value) → IsSound true (t ∷ []) → Means t v → ⊥
sound_one t v h m = h (v ∷ []) (m, tt)

-- a node that means nothing is no byte string
pub no_string : (t : Tree) → IsSound true (t ∷ []) → (b : List ℕ) → IsByteString t b → ⊥
no_string t h b s = sound_one t (bytes b) h (string_means t b s)

-- what lies in a buffer after its front y
pub rest_read : (r : Option (Bor (List ℕ))) (d : Bor (List ℕ)) (p : ℕ) (xs y z : List ℕ) → MatchOption r ((length xs < p) ⊎ (length xs < length xs)) (λ x. (p ≤ length xs) × (length xs ≤ length xs) × (x.now ≡ slice_range xs p (length xs)) × (length x.now + p ≡ length xs)) → xs ≡ y ++ z → p ≡ length y → (unwrap_or r d).now ≡ z
rest_read r d p xs y z h1 h2 h3 = grind (arith, drop_at, length-append, take_all)

module _ (order : List ℕ → List ℕ → Ordering) where
  pub one_encoded : (t : Tree) (x : List ℕ) → AreEncodedAs order (t ∷ []) x → IsEncodedAs order t x
  one_encoded t x ([], m, p, d) = absurd m
  one_encoded t x (v ∷ u ∷ vs, m, p, d) = absurd m.1
  one_encoded t x (v ∷ [], m, p, (a, b, h, e, is)) = (v, m.0, p.0, subst (Det order v) (sym (is ∙ ap (λ y. a ++ y) e ∙ append-nil a)) h)

  -- the content of a tag that means something is a byte string exactly if its encoding is that of one
  pub code_string : (t : Tree) (x b : List ℕ) → AreEncodedAs order (t ∷ []) x → ((v : Value) → IsProper v → Det order v x → v ≡ bytes b) → IsByteString t b
  code_string t x b h only = let (v, m, p, d) = one_encoded t x h in means_string t b (subst (Means t) (only v p d) m)

  pub code_no_string : (t : Tree) (x : List ℕ) → AreEncodedAs order (t ∷ []) x → ((b : List ℕ) → IsProper (bytes b) → Det order (bytes b) x → ⊥) → (b : List ℕ) → IsByteString t b → ⊥
  code_no_string t x h none b s =
      let (v, m, p, d) = one_encoded t x h in
      let e : v ≡ bytes b = means_once t v (bytes b) m (string_means t b s) in
      none b (subst IsProper e p) (subst (λ w. Det order w x) e d)

  -- ---- bignums

  pub bignum_coded : (p : ℕ) (w : Width) (s : Bool) (t : Tree) (b m c : List ℕ) → IsByteString t b → AreBytes m → IsShortest m → length m < 2 ^ 64 → big_endian m ≡ big_endian b → IsInteger s m c → Coded order (Tagged p w (bignum_tag s) t) c
  bignum_coded p w false t b m c is all shortest fits same d = inl (integer false m, inl (refl, (b, is, (m, all, shortest, same, refl))), (all, shortest, fits), d)
  bignum_coded p w true t b m c is all shortest fits same d = inl (integer true m, inr (inl (refl, (b, is, (m, all, shortest, same, refl)))), (all, shortest, fits), d)

pub bignum_nothing : (p : ℕ) (w : Width) (s : Bool) (t : Tree) → ((b : List ℕ) → IsByteString t b → ⊥) → MeansNothing (Tagged p w (bignum_tag s) t)
bignum_nothing p w s t h1 = grind arith

pub number_of_bignum : (n : ℕ) → (n ≡ 2) ⊎ (n ≡ 3) → bignum_tag (eqb n 3) ≡ n
number_of_bignum n h1 = grind arith

-- the flaw of a tag over what is no byte string
pub bad_found : (p : ℕ) (w : Width) (s : Bool) (t : Tree) → ((b : List ℕ) → IsByteString t b → ⊥) → FindsFlaw (FlawAt (Tagged p w (bignum_tag s) t)) (Some (record { place = p; reason = BadBignum }))
bad_found p w s t none = record { is = (refl, refl, tags s, none); first = λ q r f. inr (sym f.0, (let e = f.1 in rw e (omega arith))) }

-- ---- other tags

-- the one node in a tag
pub only : (ts : List Tree) → (t : Tree) × (ts ≡ t ∷ []) → ts ≡ last_of ts ∷ []
only ts (t, e) = e ∙ ap (λ u. u ∷ []) (sym (ap last_of e))

pub tag_nothing : (p : ℕ) (w : Width) (n : ℕ) (t : Tree) → n ≢ 2 → n ≢ 3 → IsSound true (t ∷ []) → MeansNothing (Tagged p w n t)
tag_nothing p w n t h1 h2 h3 = grind (arith, sound_one)

pub tag_flawless : (p : ℕ) (w : Width) (n : ℕ) (t : Tree) → n ≢ 2 → n ≢ 3 → FindsFlaw (FlawAt (Tagged p w n t)) None
tag_flawless p w n t two three q r f = elim f.2 [ inl e ↦ two e | inr e ↦ three e ]

-- the defect of its head is all that a tag adds
pub tag_long : (p : ℕ) (w : Width) (n : ℕ) (t : Tree) (o : Option SomeDefect) → n ≢ 2 → n ≢ 3 → FindsDefect (LongAt p w n) o → FindsDefect (Either (LongAt p w n) (LooseAt p n t)) o
tag_long p w n t o h1 h2 h3 = grind (arith, alike)

module _ (order : List ℕ → List ℕ → Ordering) where
  pub tag_coded : (p : ℕ) (w : Width) (n : ℕ) (t : Tree) (h x : List ℕ) → n ≢ 2 → n ≢ 3 → n < 2 ^ 64 → IsLeastHead 6 n h → AreEncodedAs order (t ∷ []) x → Coded order (Tagged p w n t) (h ++ x)
  tag_coded p w n t h x two three fits l e =
      let (v, m, proper, d) = one_encoded order t x e in
      inl (tagged n v, inr (inr (two, three, v, m, refl)), (two, three, fits, proper), (h, x, l, d, refl))

-- ---- what a container of each kind that ends well is, by what it opens

-- what is open where a level stands; the input, which opens nothing, is as good as another
abbrev pub opening_of : Container → ℕ → Opening
opening_of (Container.Array s c) p = an_array p s c
opening_of (Container.Map s c) p = a_map p s c
opening_of (Container.Tag w n) p = a_tag p w n
opening_of (Container.Chunks k) p = in_chunks p k
opening_of Container.Input p = in_chunks p OfBytes

opened_as : (l : Level) (o : Opening) (a : Container) → l.container ≡ a → Opens l o → opening_of a l.place ≡ o
opened_as l o a h1 h2 = grind arith

-- ---- what has ended

abbrev pub is_map : Container → Bool
is_map (Container.Map s c) = true
is_map _ = false

-- a container that is no map has no marks
unmarked : (order : List ℕ → List ℕ → Ordering) (l : Level) (o : Opening) (ts : List Tree) (ms : List Mark) (z : List ℕ) → is_map l.container ≡ false → Inner order l o ts ms z → ms ≡ []
unmarked order l o ts ms z h1 h2 = grind (arith, true≢false)

has_ended : (order : List ℕ → List ℕ → Ordering) (e k : Encodings) (f : Partial) (o : Opening) (ts : List Tree) (found : Findings) → Ends o ts → StandsIn order e (inside f o ts) → k.outer.items ≡ e.outer.items → k.innermost ≡ e.innermost
    → ((ns own : List Mark) (z : List ℕ) → marks_of e.pairs ≡ ns ++ own → e.innermost.pairs ≡ length ns → Inner order e.innermost o ts own z → EndsWell order e.innermost o own e.out.items k.out.items found × (marks_of k.pairs ≡ ns)) → HasEnded order k f o ts found
has_ended order e k f o ts found ends s outer same ended =
    let (well, rest) = ended s.4 s.5 s.3 s.8 s.10 s.12 in
    let (code, coded, new, flaw, defect) = well ts s.2 s.3 ends s.7 s.9 s.12 in
    record {
      outer = s.0;
      around = s.1;
      before = s.2;
      encoded = code;
      levels = outer ∙ s.6;
      out = new;
      opens = subst (λ l. Opens l o) (sym same) s.12.opens;
      sound = subst (λ (l : Level). IsSound l.flawed ts) (sym same) s.12.sound;
      start = ap (λ (l : Level). l.start) same ∙ s.9;
      coded = coded;
      flaw = flaw;
      defect = λ sound. defect (ap (λ (l : Level). l.flawed) (sym same) ∙ sound);
      stands = subst (λ ms. Stands order s.0 s.1 f ms s.2) (sym rest) s.11;
    }

-- of one that is no map
pub unmarked_ended : (order : List ℕ → List ℕ → Ordering) (e k : Encodings) (f : Partial) (o : Opening) (ts : List Tree) (found : Findings) (a : Container) → e.innermost.container ≡ a → is_map a ≡ false → Ends o ts → StandsIn order e (inside f o ts) → k.outer.items ≡ e.outer.items → k.innermost ≡ e.innermost → marks_of k.pairs ≡ marks_of e.pairs
    → EndsWell order e.innermost (opening_of a e.innermost.place) [] e.out.items k.out.items found → HasEnded order k f o ts found
unmarked_ended order e k f o ts found a is no_map ends s outer same marks ended =
    has_ended order e k f o ts found ends s outer same
    (λ ns own z old pairs inner.
    let l = e.innermost in
    let none : own ≡ [] = unmarked order l o ts own z (ap is_map is ∙ no_map) inner in (
      subst (λ ms. EndsWell order l o ms e.out.items k.out.items found) (sym none) (subst (λ p. EndsWell order l p [] e.out.items k.out.items found) (opened_as l o a is inner.opens) ended),
      marks ∙ old ∙ ap (λ ms. ns ++ ms) none ∙ append-nil ns,
    ))

pub closes : {O A E : Type 0} (order : List ℕ → List ℕ → Ordering) (e n : Encoder O) (k : Encodings) (r : Result A E) (a : Container) (found : Findings) → e.encodings.innermost.container ≡ a → is_map a ≡ false → k.outer.items ≡ e.encodings.outer.items → k.innermost ≡ e.encodings.innermost → marks_of k.pairs ≡ marks_of e.encodings.pairs
    → EndsWell order e.encodings.innermost (opening_of a e.encodings.innermost.place) [] e.encodings.out.items k.out.items found
    → OnOk r ((f : Partial) (o : Opening) (ts : List Tree) → IsFree f → Ends o ts → HasEnded order k f o ts found → Finds order (inside f o ts) e.flaw e.defect → IsHeld order n (put f (built o ts)) no_part) → OnOk r (Closes order e n)
closes order e n k r a found is no_map outer same marks well h = on_ok r (λ held f o ts free ends old. held f o ts free ends (unmarked_ended order e.encodings k f o ts found a is no_map ends old.0 outer same marks well) old.1) h

-- of a map
pub map_ended : (order : List ℕ → List ℕ → Ordering) (e k : Encodings) (f : Partial) (o : Opening) (ts : List Tree) (found : Findings) (s : Size) (c : Option ℕ) → e.innermost.container ≡ Container.Map s c → Ends o ts → StandsIn order e (inside f o ts) → k.outer.items ≡ e.outer.items → k.innermost ≡ e.innermost → marks_of k.pairs ≡ take e.innermost.pairs (marks_of e.pairs)
    → EndsWell order e.innermost (a_map e.innermost.place s c) (drop e.innermost.pairs (marks_of e.pairs)) e.out.items k.out.items found → HasEnded order k f o ts found
map_ended order e k f o ts found s c is ends h outer same marks ended =
    has_ended order e k f o ts found ends h outer same
    (λ ns own z old pairs inner.
    let l = e.innermost in
    let mine : drop l.pairs (marks_of e.pairs) ≡ own = ap (drop l.pairs) old ∙ drop_at ns own l.pairs (sym pairs) in (
      subst (λ ms. EndsWell order l o ms e.out.items k.out.items found) mine (subst (λ p. EndsWell order l p (drop l.pairs (marks_of e.pairs)) e.out.items k.out.items found) (opened_as l o (Container.Map s c) is inner.opens) ended),
      marks ∙ ap (take l.pairs) old ∙ take_at ns own l.pairs (sym pairs),
    ))

-- ---- what stands in the buffer when a map has ended, and what was found

pub length_marked : (p : ℕ) (rs : List Row) (ms : List Mark) → AreMarked p rs ms → length ms ≡ length rs
length_marked p [] [] h = refl
length_marked p (r ∷ rs) (m ∷ ms) h = ap suc (length_marked (p + length r.1 + length r.2) rs ms h.1)
length_marked p _ _ h = absurd h

-- fewer than two keys rise
pub few_rise : (order : List ℕ → List ℕ → Ordering) (p : ℕ) (own : List Mark) (y : List ℕ) → length own < 2 → FindsDescent order p own y None
few_rise order p own y few x [] at lies marked = ((λ e. tt), (λ f q r d. d.1))
few_rise order p own y few x ((q, [], v) ∷ []) at lies marked = ((λ e. tt), (λ f n r d. d.1))
few_rise order p own y few x ((q, b ∷ bs, v) ∷ []) at lies marked = ((λ e. tt), (λ f n r d. d.1))
few_rise order p own y few x (r ∷ s ∷ rs) at lies marked = absurd (omega (arith, length_marked p (r ∷ s ∷ rs) own marked))

module _ (order : List ℕ → List ℕ → Ordering) (laws : IsKeyOrder order) (p : ℕ) (s : Size) (c : Option ℕ) (ts : List Tree) (rs : List Row) (ends : Ends (a_map p s c) ts) (rows : AreRows order ts rs) where
  here : AllZip (IsRow order) (paired ts) rs
  here = paired_rows order ts rs ends.1 rows

  pub length_paired : length rs ≡ length (paired ts)
  length_paired = AllZip-long (IsRow order) (paired ts) rs here

  sound : IsSound false ts → AreFilled rs
  sound v = let m = sound_paired ts v.0 ends.1 v.1 in (written order (paired ts) rs m.0 here m.1).filled

  -- ---- the flaw and the defect

  pub flaw_found : (o : Option SomeFlaw) → FindsFlaw (RowRepeat rs) o → FindsFlaw (OwnFlaw (a_map p s c) ts) o
  flaw_found o h = found_alike flaw_rank (λ f. f.place) (λ f. f.reason) (RowRepeat rs) (RepeatFlaw (entries (paired ts))) o (repeats order laws (paired ts) rs here) h

  pub defect_found : (n : ℕ) (a b o : Option SomeDefect) → n ≡ length rs → IsSound false ts → FindsDefect (SizeAt p (ended_size s c n) n) a → (AreFilled rs → FindsDefect (RowDescent order rs) b) → IsEarliestDefect a b o → FindsDefect (OwnDefect order (a_map p s c) ts) o
  defect_found n a b o l v h k e =
      let f = sound v in
      both_found (SizeAt p (ended_size s c (length (paired ts))) (length (paired ts))) (DescentAt order (entries (paired ts))) a b o
      (subst (λ m. FindsDefect (SizeAt p (ended_size s c m) m) a) (l ∙ length_paired) h) (alike (RowDescent order rs) (DescentAt order (entries (paired ts))) b (descents order laws (paired ts) rs here f) (k f)) e

  -- ---- the encoding

  abbrev Map : Tree
  Map = built (a_map p s c) ts

  nothing : IsSound true ts → MeansNothing Map
  nothing h v m = let r = paired_sound ts m.0 ends.1 m.1 in h r.0 r.1

  abbrev Stays : List ℕ → List ℕ → Type 0
  Stays x new = (d : List ℕ) × Coded order Map d × (new ≡ x ++ d)

  -- nothing is left of it
  gone : (x h mid new : List ℕ) → MeansNothing Map → (a : List ℕ) × (mid ≡ (x ++ h) ++ a) → new ≡ take (length x) mid → Stays x new
  gone x h mid new z g t = ([], inr (refl, z), cut (length x) x (h ++ g.0) mid new (g.1 ∙ append_assoc x h g.0) refl t)

  -- its pairs were arranged, and it has its head
  placed : (x h a mid new : List ℕ) (n : ℕ) → IsHeadFront 5 c h → n ≡ length rs → IsSound false ts → FindsFlaw (RowRepeat rs) None → AreArranged order rs a → mid ≡ (x ++ h) ++ a
      → ((m : ℕ) → c ≡ Some m → new ≡ mid) → (c ≡ None → length x < length mid → Replaces (IsLeastHead 5 n) (length x) mid new) → Stays x new
  placed x h a mid new n l i v f r g known set =
      let m = sound_paired ts v.0 ends.1 v.1 in
      let new_keys : (q : ℕ) → HasRepeat (entries (paired ts)) q → ⊥ = λ q k. flaw_found None f q DuplicateKey (refl, k) in
      let many : n ≡ length (paired ts) = i ∙ length_paired in
      let (b, least, whole) = headed 5 n c (length x) x h a mid new (g ∙ append_assoc x h a) refl l (subst (IsAll c) (sym many) ends.0) known set in
      (b ++ a, inl (map_encoded order p (ended_size s c (length (paired ts))) (paired ts) rs m.0 b a here m.1 new_keys (subst (λ k. IsLeastHead 5 k b) many least) r), whole)

  -- the pairs after the front h were arranged, and then the map was cut off or got its head
  pub ended : (flawed : Bool) (o : Option SomeFlaw) (x h mid new : List ℕ) (n : ℕ) → IsFront (a_map p s c) h → IsSound flawed ts → FindsFlaw (RowRepeat rs) o → n ≡ length rs
      → (o ≡ None → AreFilled rs → (a : List ℕ) × AreArranged order rs a × (mid ≡ (x ++ h) ++ a)) → (a : List ℕ) × (mid ≡ (x ++ h) ++ a)
      → ((flawed || is_some o) ≡ true → new ≡ take (length x) mid) → ((flawed || is_some o) ≡ false → (m : ℕ) → c ≡ Some m → new ≡ mid)
      → ((flawed || is_some o) ≡ false → c ≡ None → length x < length mid → Replaces (IsLeastHead 5 n) (length x) mid new) → Stays x new
  ended true o x h mid new n l v f i r g cut_off known set = gone x h mid new (nothing v) g (cut_off refl)
  ended false (Some e) x h mid new n l v f i r g cut_off known set = gone x h mid new (λ v m. no_repeat (entries (paired ts)) m.0 e.place m.1 m.2 ((repeats order laws (paired ts) rs here e.place e.reason).0 f.is).1) g (cut_off refl)
  ended false None x h mid new n l v f i r g cut_off known set =
      let a = r refl (sound v) in
      placed x h a.0 mid new n l i v f a.1 a.2 (known refl) (set refl)
