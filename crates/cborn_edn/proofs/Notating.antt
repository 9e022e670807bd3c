-- The text of a partial sequence, as heads and strings come.
use Rattle.std.specs.Prelude.{◌≡◌, ◌+◌, ◌-◌, ◌^◌, ◌∷◌, ◌++◌, ◌⊎◌, if◌then◌else◌}
use Rattle.cborn_edn.proofs.Common.{refl, sym, ap, ◌∙◌, subst, ℕ, List, [], length, map, drop, min, append_assoc, append-nil, Option, Some, None, Bool, true, false, not, is_some, inl, inr, Result, Ok, Err, OnOk, arith, le-ltb, ltb-true, ltb-false, eq-eqb, IsUtf8, flat_map-append, drop-append_seam, Fixed, Width, StringKind, OfBytes, OfText, Tree, trees, entries, FitsAll, Partial, top, inside, Opening, an_array, a_map, in_chunks, no_part, part, put, built, paired, last_key, chunks_of, string_tree, integer_tree, AreStrings, Ends, IsFree, Notator, is_good, others, shown, shown_chunk, shown_string, shown_lines, item_texts, pair_texts, joined_by, Shown, IsBadText, IsBadAmong, IsBadInPairs, IsBadChunk, LowestBadText, after, separator, ending, next_after, beginning, next_in, next_around, late_size, is_counted, one_more, IsCounted, IsEnded, count_one, tally, late_in, lates, IsBadIn, IsLowest, lowest_with, quote, content, string_end, IsHeld, codes, ByteNode as Bytes, TextNode as Text, count-trees, count_entries-entries, lower}
use Rattle.cborn_wire.proofs.Visiting.Counting.{last_same}
use Rattle.cborn_edn.specs.declared.notators.Next.{Next}
use Rattle.cborn_edn.specs.declared.notators.Next.TheVariants.{FirstItem, Item, FirstElement, Element, FirstKey, Key, Value, FirstChunk, Chunk, FirstLateElement, LateElement, FirstLateKey, LateKey, LateValue}
use Rattle.cborn_edn.specs.declared.notators.OpenString.{OpenString}
use Rattle.cborn_edn.specs.declared.notators.Late.{Late}
use Rattle.cborn_edn.specs.devices.Notating.{following, first, written}
use Rattle.cborn_edn.proofs.Shown.Characters.{lines_text, same_utf8}
use Rattle.cborn_edn.proofs.Reader.Modest.{least_is_eight}
use Rattle.cborn_edn.proofs.Shown.Lowests.{each_showable}
use Rattle.cborn_edn.proofs.Lexed.HexTexts.{hex_nothing, hex_more}

-- One more node.

following_push : (s : Next) (ts : List Tree) (t : Tree) → following s (ts ++ t ∷ []) ≡ following s ts ++ (separator (next_after s ts) ++ shown t)
following_push s [] t = ap (λ l. separator s ++ l) (append-nil (shown t))
following_push s (u ∷ ts) t =
    ap (λ l. separator s ++ (shown u ++ l)) (following_push (after s) ts t)
    ∙ simp append_assoc

next_push : (s : Next) (ts : List Tree) (t : Tree) → next_after s (ts ++ t ∷ []) ≡ after (next_after s ts)
next_push s [] t = refl
next_push s (u ∷ ts) t = next_push (after s) ts t

next_put : (f : Partial) (t : Tree) → next_in (put f t) ≡ after (next_in f)
next_put f t = grind (arith, next_push)

around_put : (f : Partial) (t : Tree) → next_around (put f t) ≡ next_around f
around_put f t = grind arith

written_put : (f : Partial) (t : Tree) → written (put f t) ≡ (written f ++ separator (next_in f)) ++ shown t
written_put f t = grind (arith, append_assoc, following_push)

tally_put : (s : Next) (n : ℕ) (ts : List Tree) (t : Tree) → tally s n (ts ++ t ∷ []) false ≡ tally s n ts true
tally_put s n [] t = refl
tally_put s n (u ∷ ts) t = tally_put (after s) (count_one s n) ts t

lates_put : (f : Partial) (t : Tree) → lates false (put f t) ≡ lates true f
lates_put f t = grind (arith, tally_put)

-- Texts that aren't UTF-8.

among_push : (ts : List Tree) (t : Tree) (p : ℕ) → IsBadAmong (trees (ts ++ t ∷ [])) p → IsBadAmong (trees ts) p ⊎ IsBadText t p
among_push [] t p (inl h) = inr h
among_push [] t p (inr h) = absurd h
among_push (u ∷ ts) t p (inl h) = inl (inl h)
among_push (u ∷ ts) t p (inr h) = elim (among_push ts t p h) [ inl a ↦ inl (inr a) | inr b ↦ inr b ]

among_front : (ts : List Tree) (t : Tree) (p : ℕ) → IsBadAmong (trees ts) p → IsBadAmong (trees (ts ++ t ∷ [])) p
among_front [] t p h = absurd h
among_front (u ∷ ts) t p (inl h) = inl h
among_front (u ∷ ts) t p (inr h) = inr (among_front ts t p h)

among_last : (ts : List Tree) (t : Tree) (p : ℕ) → IsBadText t p → IsBadAmong (trees (ts ++ t ∷ [])) p
among_last [] t p h = inl h
among_last (u ∷ ts) t p h = inr (among_last ts t p h)

bad_put : (f : Partial) (t : Tree) (p : ℕ) → IsBadIn (put f t) p → IsBadIn f p ⊎ IsBadText t p
bad_put f t p h1 = grind (arith, among_push)

bad_before : (f : Partial) (t : Tree) (p : ℕ) → IsBadIn f p → IsBadIn (put f t) p
bad_before (top ts) t p h = among_front ts t p h
bad_before (inside f o ts) t p (inl h) = inl h
bad_before (inside f o ts) t p (inr h) = inr (among_front ts t p h)

bad_last : (f : Partial) (t : Tree) (p : ℕ) → IsBadText t p → IsBadIn (put f t) p
bad_last f t p h1 = grind (arith, among_last)

lowest_same : (P Q : ℕ → Type 0) (o : Option ℕ) → ((p : ℕ) → P p → Q p) → ((p : ℕ) → Q p → P p) → IsLowest P o → IsLowest Q o
lowest_same P Q o h1 h2 h3 = grind arith

-- The end of a container.

after_items : (ts : List Tree) → (following Element ts ≡ others (codes ", ") (item_texts (trees ts))) × (next_after Element ts ≡ Element)
after_items [] = (refl, refl)
after_items (t ∷ ts) = let h = after_items ts in (ap (λ l. codes ", " ++ (shown t ++ l)) h.0, h.1)

items_joined : (ts : List Tree) → (following FirstElement ts ≡ joined_by (codes ", ") (item_texts (trees ts))) × (ending (next_after FirstElement ts) ≡ codes "]")
items_joined [] = (refl, refl)
items_joined (t ∷ ts) = let h = after_items ts in (ap (λ l. shown t ++ l) h.0, ap ending h.1)

pair_text : (k v : Tree) (rest : List ℕ) → shown k ++ (codes ": " ++ (shown v ++ rest)) ≡ (shown k ++ (codes ": " ++ shown v)) ++ rest
pair_text k v rest = sym (append_assoc (shown k) (codes ": " ++ shown v) rest)

after_pairs : (ts : List Tree) → last_key ts ≡ None → (following Key ts ≡ others (codes ", ") (pair_texts (entries (paired ts)))) × (next_after Key ts ≡ Key)
after_pairs [] e = (refl, refl)
after_pairs (k ∷ []) e = absurd (let d : Some k ≡ None = e in cc)
after_pairs (k ∷ v ∷ ts) e = let h = after_pairs ts e in (ap (λ l. codes ", " ++ l) (ap (λ l. shown k ++ (codes ": " ++ (shown v ++ l))) h.0 ∙ pair_text k v (others (codes ", ") (pair_texts (entries (paired ts))))), h.1)

pairs_joined : (ts : List Tree) → last_key ts ≡ None → (following FirstKey ts ≡ joined_by (codes ", ") (pair_texts (entries (paired ts)))) × (ending (next_after FirstKey ts) ≡ codes "}")
pairs_joined [] e = (refl, refl)
pairs_joined (k ∷ []) e = absurd (let d : Some k ≡ None = e in cc)
pairs_joined (k ∷ v ∷ ts) e = let h = after_pairs ts e in (ap (λ l. shown k ++ (codes ": " ++ (shown v ++ l))) h.0 ∙ pair_text k v (others (codes ", ") (pair_texts (entries (paired ts)))), ap ending h.1)

after_chunks : (k : StringKind) (ts : List Tree) → AreStrings k ts → (following Chunk ts ≡ others (codes ", ") (map (shown_chunk k) (chunks_of ts))) × (next_after Chunk ts ≡ Chunk)
after_chunks k [] h = (refl, refl)
after_chunks OfBytes (Bytes p w x ∷ ts) h = let g = after_chunks OfBytes ts h.1 in (ap (λ l. codes ", " ++ (shown_string OfBytes w x ++ l)) g.0, g.1)
after_chunks OfText (Text p w x ∷ ts) h = let g = after_chunks OfText ts h.1 in (ap (λ l. codes ", " ++ (shown_string OfText w x ++ l)) g.0, g.1)
after_chunks _ (_ ∷ ts) h = absurd h.0

chunks_joined : (k : StringKind) (p : ℕ) (ts : List Tree) → AreStrings k ts → following (FirstChunk k) ts ++ ending (next_after (FirstChunk k) ts) ≡ shown (built (in_chunks p k) ts)
chunks_joined OfBytes p [] h = refl
chunks_joined OfText p [] h = refl
chunks_joined OfBytes p (Bytes q w x ∷ ts) h =
    let g = after_chunks OfBytes ts h.1 in
    (λ i. (codes "(_ " ++ (shown_string OfBytes w x ++ g.0 i)) ++ ending (g.1 i)) ∙ ap (λ l. codes "(_ " ++ l) (simp append_assoc)
chunks_joined OfText p (Text q w x ∷ ts) h =
    let g = after_chunks OfText ts h.1 in
    (λ i. (codes "(_ " ++ (shown_string OfText w x ++ g.0 i)) ++ ending (g.1 i)) ∙ ap (λ l. codes "(_ " ++ l) (simp append_assoc)
chunks_joined _ p (_ ∷ ts) h = absurd h.0

bracketed : (a b x y z : List ℕ) → y ≡ x → z ≡ b → (a ++ y) ++ z ≡ a ++ (x ++ b)
bracketed a b x y z e f = ap (λ l. (a ++ l) ++ z) e ∙ append_assoc a x z ∙ ap (λ l. a ++ (x ++ l)) f

-- Where the count isn't known from the start, parts come as in other arrays and maps.

abbrev plain : Next → Next
plain FirstLateElement = FirstElement
plain LateElement = Element
plain FirstLateKey = FirstKey
plain LateKey = Key
plain LateValue = Value
plain s = s

plain_after : (s : Next) → after (plain s) ≡ plain (after s)
plain_after s = grind arith

plain_separator : (s : Next) → separator (plain s) ≡ separator s
plain_separator s = grind arith

plain_ending : (s : Next) → ending (plain s) ≡ ending s
plain_ending s = grind arith

plain_counted : (s : Next) → is_counted (plain s) ≡ false
plain_counted s = grind arith

plain_following : (s : Next) (ts : List Tree) → (following s ts ≡ following (plain s) ts) × (plain (next_after s ts) ≡ next_after (plain s) ts)
plain_following s [] = (refl, refl)
plain_following s (t ∷ ts) =
    let h = plain_following (after s) ts in
    ((λ i. sym (plain_separator s) i ++ (shown t ++ (h.0 ∙ ap (λ u. following u ts) (sym (plain_after s))) i)), h.1 ∙ ap (λ u. next_after u ts) (sym (plain_after s)))

ending_plain : (s : Next) (ts : List Tree) → ending (next_after s ts) ≡ ending (next_after (plain s) ts)
ending_plain s ts = sym (plain_ending (next_after s ts)) ∙ ap ending (plain_following s ts).1

uncounted : (s : Next) (ts : List Tree) → is_counted (next_after (plain s) ts) ≡ false
uncounted s ts = ap is_counted (sym (plain_following s ts).1) ∙ plain_counted (next_after s ts)

-- Counts, up to the greatest number of 64 bits.

abbrev low : ℕ → ℕ
low n = min n (2 ^ 64 - 1)

low_more : (n : ℕ) → one_more (low n) ≡ low (n + 1)
low_more n = grind arith

later_items : (n : ℕ) (ts : List Tree) → (tally LateElement (low n) ts false ≡ low (n + length ts)) × (is_counted (next_after LateElement ts) ≡ true)
later_items n [] = (ap low (omega arith), refl)
later_items n (t ∷ ts) = let h = later_items (n + 1) ts in (ap (λ k. tally LateElement k ts false) (low_more n) ∙ h.0 ∙ ap low (omega arith), h.1)

late_items : (ts : List Tree) → (tally FirstLateElement 0 ts false ≡ low (length ts)) × (is_counted (next_after FirstLateElement ts) ≡ true)
late_items [] = (refl, refl)
late_items (t ∷ ts) = let h = later_items 1 ts in (h.0 ∙ ap low (omega arith), h.1)

later_pairs : (n : ℕ) (ts : List Tree) → last_key ts ≡ None → (tally LateKey (low n) ts false ≡ low (n + length (paired ts))) × (is_counted (next_after LateKey ts) ≡ true)
later_pairs n [] e = (ap low (omega arith), refl)
later_pairs n (k ∷ []) e = absurd (let d : Some k ≡ None = e in cc)
later_pairs n (k ∷ v ∷ ts) e = let h = later_pairs (n + 1) ts e in (ap (λ k. tally LateKey k ts false) (low_more n) ∙ h.0 ∙ ap low (omega arith), h.1)

late_pairs : (ts : List Tree) → last_key ts ≡ None → (tally FirstLateKey 0 ts false ≡ low (length (paired ts))) × (is_counted (next_after FirstLateKey ts) ≡ true)
late_pairs [] e = (refl, refl)
late_pairs (k ∷ []) e = absurd (let d : Some k ≡ None = e in cc)
late_pairs (k ∷ v ∷ ts) e = let h = later_pairs 1 ts e in (h.0 ∙ ap low (omega arith), h.1)

tally_one : (s : Next) (n : ℕ) (ts : List Tree) → tally s n ts true ≡ count_one (next_after s ts) (tally s n ts false)
tally_one s n [] = refl
tally_one s n (t ∷ ts) = tally_one (after s) (count_one s n) ts

counted_last : (s : Next) (ts : List Tree) (i : ℕ) (w : Width) (front old new : List Late) → IsCounted (next_after s ts) old new → old ≡ front ++ record { at = i; width = w; count = tally s 0 ts false } ∷ []
    → new ≡ front ++ record { at = i; width = w; count = tally s 0 ts true } ∷ []
counted_last s ts i w front old new h1 h2 = grind (arith, tally_one)

-- one more node begins
counted_next : (f : Partial) (old new : List Late) → IsCounted (next_in f) old new → old ≡ lates false f → new ≡ lates true f
counted_next (top ts) old new c h = c.0 (uncounted FirstItem ts) ∙ h
counted_next (inside f (an_array p (Fixed w) None) ts) old new c h = counted_last FirstLateElement ts (length ((written f ++ separator (next_in f)) ++ codes "[")) w (lates true f) old new c h
counted_next (inside f (a_map p (Fixed w) None) ts) old new c h = counted_last FirstLateKey ts (length ((written f ++ separator (next_in f)) ++ codes "{")) w (lates true f) old new c h
counted_next (inside f o ts) old new c h = c.0 (uncounted (first o) ts) ∙ h

-- a count beyond that has no indicator
late_low : (w : Width) (n : ℕ) → late_size w (low n) ≡ late_size w n
late_low w n = grind (arith, eq-eqb, le-ltb, least_is_eight, ltb-false, ltb-true)

-- the indicator that is inserted where the container ends
abbrev late_text : Opening → List Tree → List ℕ
late_text (an_array p (Fixed w) None) ts = late_size w (length ts)
late_text (a_map p (Fixed w) None) ts = late_size w (length (paired ts))
late_text _ ts = []

sized_end : (f : Partial) (o : Opening) (ts : List Tree) (old new : List Late) (out text : List ℕ) → Ends o ts → IsEnded (next_after (first o) ts) old out new text → old ≡ lates false (inside f o ts) → out ≡ written (inside f o ts)
    → (new ≡ lates true f) × (text ≡ ((written f ++ separator (next_in f)) ++ (beginning o ++ (late_text o ts ++ following (first o) ts))) ++ ending (next_after (first o) ts))
sized_end f (an_array p (Fixed w) None) ts old new out text ends ended e g =
    let a = written f ++ separator (next_in f) in
    let y = following FirstLateElement ts in
    let h = late_items ts in
    let n = ap (late_size w) h.0 ∙ late_low w (length ts) in
    let r = ended.1 h.1 (lates true f) (record { at = length (a ++ codes "["); width = w; count = tally FirstLateElement 0 ts false }) (a ++ codes "[") y e (g ∙ sym (append_assoc a (codes "[") y)) refl in
    (r.0, r.1 ∙ ap (λ l. l ++ ending (next_after FirstLateElement ts)) (append_assoc a (codes "[") _ ∙ ap (λ m. a ++ (codes "[" ++ (m ++ y))) n))
sized_end f (a_map p (Fixed w) None) ts old new out text ends ended e g =
    let a = written f ++ separator (next_in f) in
    let y = following FirstLateKey ts in
    let h = late_pairs ts ends.1 in
    let n = ap (late_size w) h.0 ∙ late_low w (length (paired ts)) in
    let r = ended.1 h.1 (lates true f) (record { at = length (a ++ codes "{"); width = w; count = tally FirstLateKey 0 ts false }) (a ++ codes "{") y e (g ∙ sym (append_assoc a (codes "{") y)) refl in
    (r.0, r.1 ∙ ap (λ l. l ++ ending (next_after FirstLateKey ts)) (append_assoc a (codes "{") _ ∙ ap (λ m. a ++ (codes "{" ++ (m ++ y))) n))
sized_end f o ts old new out text ends ended e g =
    let r = ended.0 (uncounted (first o) ts) in
    (r.0 ∙ e ∙ append-nil (lates true f), r.1 ∙ ap (λ l. l ++ ending (next_after (first o) ts)) g)

shown_built : (o : Opening) (ts : List Tree) → Ends o ts → (beginning o ++ (late_text o ts ++ following (first o) ts)) ++ ending (next_after (first o) ts) ≡ shown (built o ts)
shown_built o ts h1 = grind (arith, append-nil, append_assoc, bracketed, chunks_joined, count-trees, count_entries-entries, ending_plain, items_joined, pairs_joined, plain_following)

in_pairs : (ts : List Tree) (p : ℕ) → last_key ts ≡ None → (IsBadAmong (trees ts) p → IsBadInPairs (entries (paired ts)) p) × (IsBadInPairs (entries (paired ts)) p → IsBadAmong (trees ts) p)
in_pairs [] p e = (λ h. h, λ h. h)
in_pairs (k ∷ []) p e = absurd (let d : Some k ≡ None = e in cc)
in_pairs (k ∷ v ∷ ts) p e =
    let g = in_pairs ts p e in
    (λ h. elim h [ inl a ↦ inl a | inr b ↦ inr (elim b [ inl c ↦ inl c | inr d ↦ inr (g.0 d) ]) ], λ h. elim h [ inl a ↦ inl a | inr b ↦ inr (elim b [ inl c ↦ inl c | inr d ↦ inr (g.1 d) ]) ])

no_bytes : (ts : List Tree) (p : ℕ) → AreStrings OfBytes ts → IsBadAmong (trees ts) p → ⊥
no_bytes [] p s h = h
no_bytes (Bytes q w x ∷ ts) p s (inl h) = h
no_bytes (Bytes q w x ∷ ts) p s (inr h) = no_bytes ts p s.1 h
no_bytes (_ ∷ ts) p s h = absurd s.0

in_texts : (ts : List Tree) (p : ℕ) → AreStrings OfText ts → (IsBadAmong (trees ts) p → IsBadChunk (chunks_of ts) p) × (IsBadChunk (chunks_of ts) p → IsBadAmong (trees ts) p)
in_texts [] p s = (λ h. h, λ h. h)
in_texts (Text q w x ∷ ts) p s =
    let g = in_texts ts p s.1 in
    (λ h. elim h [ inl a ↦ inl a | inr b ↦ inr (g.0 b) ], λ h. elim h [ inl a ↦ inl a | inr b ↦ inr (g.1 b) ])
in_texts (_ ∷ ts) p s = absurd s.0

bad_built : (o : Opening) (ts : List Tree) (p : ℕ) → Ends o ts → (IsBadAmong (trees ts) p → IsBadText (built o ts) p) × (IsBadText (built o ts) p → IsBadAmong (trees ts) p)
bad_built o ts p h1 = grind (arith, in_pairs, in_texts, no_bytes)

-- What the visitor holds.

-- where a place was noted there is one
pub noted : (bad : Option ℕ) (b : Bool) → is_some bad ≡ not b → b ≡ false → bad ≡ None → ⊥
noted bad b e f none = grind arith

-- a node that is no text is whole
pub put_held : (v w : Notator) (f : Partial) (t : Tree) → ((p : ℕ) → IsBadText t p → ⊥) → w.next ≡ after v.next → w.around ≡ v.around → w.bad ≡ v.bad
    → (v.bad ≡ None → IsCounted v.next v.lates.items w.lates.items) → (v.bad ≡ None → w.out.items ≡ (v.out.items ++ separator v.next) ++ shown t) → IsHeld v f no_part → IsHeld w (put f t) no_part
put_held v w f t good next around bad counted out h =
    record {
      next = next ∙ ap after h.next ∙ sym (next_put f t);
      around = ap (λ a. a.items) around ∙ h.around ∙ sym (around_put f t);
      bad = lowest_same (IsBadIn f) (IsBadIn (put f t)) w.bad (bad_before f t) (λ p b. elim (bad_put f t p b) [ inl a ↦ a | inr c ↦ absurd (good p c) ]) (subst (IsLowest (IsBadIn f)) (sym bad) h.bad);
      lates = λ none. counted_next f v.lates.items w.lates.items (subst (λ s. IsCounted s v.lates.items w.lates.items) h.next (counted (sym bad ∙ none))) (h.lates (sym bad ∙ none)) ∙ sym (lates_put f t);
      text = λ none. out (sym bad ∙ none) ∙ (λ i. (h.text (sym bad ∙ none) i ++ separator (h.next i)) ++ shown t) ∙ sym (written_put f t);
    }

pub good_integer : (p : ℕ) (negative : Bool) (w : Width) (n q : ℕ) → IsBadText (integer_tree p negative w n) q → ⊥
good_integer p negative w n q h1 = grind arith

-- a container begins
pub open_held : (v w : Notator) (f : Partial) (o : Opening) → w.next ≡ first o → w.around.items ≡ v.around.items ++ v.next ∷ [] → w.bad ≡ v.bad → (v.bad ≡ None → w.out.items ≡ (v.out.items ++ separator v.next) ++ beginning o)
    → (v.bad ≡ None → (l : List Late) × IsCounted v.next v.lates.items l × (w.lates.items ≡ l ++ late_in o (length w.out.items) 0)) → IsHeld v f no_part → IsHeld w (inside f o []) no_part
open_held v w f o next around bad out counted h =
    let at : (none : v.bad ≡ None) → w.out.items ≡ (written f ++ separator (next_in f)) ++ beginning o = λ none. out none ∙ (λ i. (h.text none i ++ separator (h.next i)) ++ beginning o) in
    record {
      next = next;
      around = around ∙ (λ i. h.around i ++ h.next i ∷ []);
      bad = lowest_same (IsBadIn f) (IsBadIn (inside f o [])) w.bad (λ p b. inl b) (λ p b. elim b [ inl a ↦ a | inr c ↦ absurd c ]) (subst (IsLowest (IsBadIn f)) (sym bad) h.bad);
      lates = λ none. (let c = counted (sym bad ∙ none) in c.2 ∙ (λ i. counted_next f v.lates.items c.0 (subst (λ s. IsCounted s v.lates.items c.0) h.next c.1) (h.lates (sym bad ∙ none)) i ++ late_in o (length (at (sym bad ∙ none) i)) 0));
      text = λ none. at (sym bad ∙ none) ∙ ap (λ l. (written f ++ separator (next_in f)) ++ l) (sym (append-nil (beginning o)));
    }

pub opened_held : {E : Type 0} (r : Result (Unit {0}) E) (v w : Notator) (o : Opening) → OnOk r (w.next ≡ first o) → OnOk r (w.around.items ≡ v.around.items ++ v.next ∷ []) → w.bad ≡ v.bad → OnOk r (v.bad ≡ None → w.out.items ≡ (v.out.items ++ separator v.next) ++ beginning o)
    → OnOk r (v.bad ≡ None → (l : List Late) × IsCounted v.next v.lates.items l × (w.lates.items ≡ l ++ late_in o (length w.out.items) 0)) → OnOk r ((f : Partial) → IsFree f → IsHeld v f no_part → IsHeld w (inside f o []) no_part)
opened_held (Ok u) v w o next around bad out counted = λ f free h. open_held v w f o next around bad out counted h
opened_held (Err e) v w o next around bad out counted = tt

-- of a container without a count u is held before it is entered
pub entered_held : {E : Type 0} (r : Result (Unit {0}) E) (v u w : Notator) (o : Opening) → ((i : ℕ) → late_in o i 0 ≡ []) → OnOk r (w.next ≡ first o) → OnOk r (w.around.items ≡ u.around.items ++ u.next ∷ []) → w.bad ≡ u.bad → w.out ≡ u.out → w.lates ≡ u.lates
    → u.next ≡ v.next → u.around.items ≡ v.around.items → u.bad ≡ v.bad → (v.bad ≡ None → u.out.items ≡ (v.out.items ++ separator v.next) ++ beginning o) → (v.bad ≡ None → IsCounted v.next v.lates.items u.lates.items)
    → OnOk r ((f : Partial) → IsFree f → IsHeld v f no_part → IsHeld w (inside f o []) no_part)
entered_held (Ok x) v u w o none_in next around bad out same_lates next_is around_is bad_is out_is counted = λ f free h.
    open_held v w f o next (around ∙ (λ i. around_is i ++ next_is i ∷ [])) (bad ∙ bad_is) (λ none. ap (λ y. y.items) out ∙ out_is none)
    (λ none. (u.lates.items, counted none, ap (λ l. l.items) same_lates ∙ sym (ap (λ l. u.lates.items ++ l) (none_in (length w.out.items)) ∙ append-nil u.lates.items))) h
entered_held (Err e) v u w o none_in next around bad out same_lates next_is around_is bad_is out_is counted = tt

-- a container ends
pub end_held : (v w : Notator) (f : Partial) (o : Opening) (ts : List Tree) (a : Next) → Ends o ts → v.around.items ≡ w.around.items ++ a ∷ [] → w.next ≡ after a → w.bad ≡ v.bad
    → (v.bad ≡ None → IsEnded v.next v.lates.items v.out.items w.lates.items w.out.items) → IsHeld v (inside f o ts) no_part → IsHeld w (put f (built o ts)) no_part
end_held v w f o ts a ends around next bad end h =
    let last = last_same w.around.items (next_around f) (sym around ∙ h.around) in
    let ended : (none : v.bad ≡ None) → (w.lates.items ≡ lates true f) × (w.out.items ≡ ((written f ++ separator (next_in f)) ++ (beginning o ++ (late_text o ts ++ following (first o) ts))) ++ ending (next_after (first o) ts)) =
    λ none. sized_end f o ts v.lates.items w.lates.items v.out.items w.out.items ends (subst (λ s. IsEnded s v.lates.items v.out.items w.lates.items w.out.items) h.next (end none)) (h.lates none) (h.text none) in
    record {
      next = next ∙ ap after last.1 ∙ sym (next_put f (built o ts));
      around = last.0 ∙ sym (around_put f (built o ts));
      bad = lowest_same (IsBadIn (inside f o ts)) (IsBadIn (put f (built o ts))) w.bad
          (λ p b. elim b [ inl x ↦ bad_before f (built o ts) p x | inr y ↦ bad_last f (built o ts) p ((bad_built o ts p ends).0 y) ])
          (λ p b. elim (bad_put f (built o ts) p b) [ inl x ↦ inl x | inr y ↦ inr ((bad_built o ts p ends).1 y) ])
          (subst (IsLowest (IsBadIn (inside f o ts))) (sym bad) h.bad);
      lates = λ none. (ended (sym bad ∙ none)).0 ∙ sym (lates_put f (built o ts));
      text = λ none. (ended (sym bad ∙ none)).1 ∙ (append_assoc (written f ++ separator (next_in f)) (beginning o ++ (late_text o ts ++ following (first o) ts)) (ending (next_after (first o) ts)) ∙ ap (λ l. (written f ++ separator (next_in f)) ++ l) (shown_built o ts ends) ∙ sym (written_put f (built o ts)));
    }

-- a string begins
pub string_open : (v w : Notator) (f : Partial) (p : ℕ) (k : StringKind) (l : Width) (n start : ℕ) (o1 : List ℕ) → w.next ≡ v.next → w.around ≡ v.around → IsCounted v.next v.lates.items w.lates.items → w.bad ≡ v.bad → w.string ≡ Some (record { place = p; kind = k; width = l; len = n; start = start })
    → o1 ≡ v.out.items ++ separator v.next → w.out.items ≡ o1 ++ quote k → start ≡ length w.out.items → IsHeld v f no_part → IsHeld w f (part p k l n [])
string_open v w f p k l n start o1 next around counted bad string sep out at h =
    record {
      next = next ∙ h.next;
      around = ap (λ a. a.items) around ∙ h.around;
      lates = λ none. counted_next f v.lates.items w.lates.items (subst (λ s. IsCounted s v.lates.items w.lates.items) h.next counted) (h.lates (sym bad ∙ none));
      bad = subst (IsLowest (IsBadIn f)) (sym bad) h.bad;
      text = (
        w.out.items,
        string ∙ ap (λ i. Some (record { place = p; kind = k; width = l; len = n; start = i })) at,
        sym (ap (λ x. w.out.items ++ x) (nothing k) ∙ append-nil w.out.items),
        λ none. out ∙ ap (λ o. o ++ quote k) (sep ∙ (λ i. h.text (sym bad ∙ none) i ++ separator (h.next i))),
      );
    }
  where
    nothing : (k : StringKind) → content k [] ≡ []
    nothing OfBytes = hex_nothing
    nothing OfText = refl

-- more of it comes
pub more_held : (v w : Notator) (f : Partial) (p : ℕ) (k : StringKind) (l : Width) (n : ℕ) (x y : List ℕ) (s : OpenString) → w.next ≡ v.next → w.around ≡ v.around → w.lates ≡ v.lates → w.bad ≡ v.bad → w.string ≡ v.string → v.string ≡ Some s
    → w.out.items ≡ v.out.items ++ content s.kind y → IsHeld v f (part p k l n x) → IsHeld w f (part p k l n (x ++ y))
more_held v w f p k l n x y s h1 h2 h3 h4 h5 h6 h7 h8 = grind (arith, append_assoc, flat_map-append, hex_more)

-- the text of a string is whole

bad_string : (k : StringKind) (p q : ℕ) (l : Width) (x : List ℕ) → IsBadText (string_tree p k l x) q → (q ≡ p) × (is_good k (content k x) ≡ false)
bad_string k p q l x h1 = grind (arith, same_utf8)

shown_text : (k : StringKind) (p : ℕ) (l : Width) (x : List ℕ) → (quote k ++ content k x) ++ string_end k l (length x) ≡ shown (string_tree p k l x)
shown_text k p l x = grind arith

lowest_more : (P Q : ℕ → Type 0) (o : Option ℕ) (p : ℕ) → IsLowest P o → ((q : ℕ) → Q q → q ≡ p) → Q p → IsLowest (λ q. P q ⊎ Q q) (Some (lower o p))
lowest_more P Q o p h1 h2 h3 = grind arith

lowest_string : (f : Partial) (k : StringKind) (p : ℕ) (l : Width) (x : List ℕ) (o : Option ℕ) (b : Bool) → is_good k (content k x) ≡ b → IsLowest (IsBadIn f) o → IsLowest (IsBadIn (put f (string_tree p k l x))) (if b then o else Some (lower o p))
lowest_string f k p l x o b h1 h2 = grind (arith, bad_before, bad_last, bad_put, bad_string, lowest_more, lowest_same, same_utf8)

pub string_held : (v w : Notator) (f : Partial) (p : ℕ) (k : StringKind) (l : Width) (n : ℕ) (x : List ℕ) (s : OpenString) → v.string ≡ Some s → length x ≡ n → w.next ≡ after v.next → w.around ≡ v.around → w.lates ≡ v.lates
    → w.bad ≡ lowest_with v.bad s (drop s.start v.out.items) → (w.bad ≡ None → w.out.items ≡ v.out.items ++ string_end s.kind s.width s.len)
    → IsHeld v f (part p k l n x) → IsHeld w (put f (string_tree p k l x)) no_part
string_held v w f p k l n x s is len next around same_lates low out h =
    let t = string_tree p k l x in
    let same : s ≡ record { place = p; kind = k; width = l; len = n; start = length h.text.0 } = some_is (sym is ∙ h.text.1) in
    let from : drop s.start v.out.items ≡ content k x = ap (λ (u : OpenString). drop u.start v.out.items) same ∙ ap (drop (length h.text.0)) h.text.2 ∙ drop-append_seam h.text.0 (content k x) in
    let lowest : w.bad ≡ (if is_good k (content k x) then v.bad else Some (lower v.bad p)) = low ∙ (λ i. if is_good (same i).kind (from i) then v.bad else Some (lower v.bad (same i).place)) in
    record {
      next = next ∙ ap after h.next ∙ sym (next_put f t);
      around = ap (λ a. a.items) around ∙ h.around ∙ sym (around_put f t);
      lates = λ none. ap (λ l. l.items) same_lates ∙ h.lates (before (is_good k (content k x)) (sym lowest ∙ none)) ∙ sym (lates_put f t);
      bad = subst (IsLowest (IsBadIn (put f t))) (sym lowest) (lowest_string f k p l x v.bad (is_good k (content k x)) refl h.bad);
      text = λ none. out none ∙ (λ i. h.text.2 i ++ string_end (same i).kind (same i).width (same i).len)
          ∙ (λ i. (h.text.3 (before (is_good k (content k x)) (sym lowest ∙ none)) i ++ content k x) ++ string_end k l (sym len i))
          ∙ (simp append_assoc) ∙ ap (λ y. (written f ++ separator (next_in f)) ++ y) (shown_text k p l x) ∙ sym (written_put f t);
    }
  where
    some_is : {s t : OpenString} → Some s ≡ Some t → s ≡ t
    some_is e = cc

    before : (b : Bool) → (if b then v.bad else Some (lower v.bad p)) ≡ None → v.bad ≡ None
    before true e = e
    before false e = absurd (let d : Some (lower v.bad p) ≡ None = e in cc)

-- The whole text.

pub finished : (v : Notator) (out : List ℕ) (ts : List Tree) → v.bad ≡ None → out ≡ v.out.items ++ ending v.next → FitsAll (trees ts) → IsHeld v (top ts) no_part → Shown (trees ts) out
finished v out ts none is fits h =
    let same = is ∙ (λ i. h.text none i ++ ending (h.next i)) ∙ lines ts in
    (subst IsUtf8 (sym same) (lines_text (trees ts) fits (each_showable (trees ts) (subst (IsLowest (IsBadAmong (trees ts))) none h.bad))), same)
  where
    after_lines : (ts : List Tree) → (following Item ts ≡ others (codes ",\n") (item_texts (trees ts))) × (next_after Item ts ≡ Item)
    after_lines [] = (refl, refl)
    after_lines (t ∷ ts) = let g = after_lines ts in (ap (λ l. codes ",\n" ++ (shown t ++ l)) g.0, g.1)

    lines : (ts : List Tree) → following FirstItem ts ++ ending (next_after FirstItem ts) ≡ shown_lines (trees ts)
    lines [] = refl
    lines (t ∷ ts) = let g = after_lines ts in λ i. (shown t ++ g.0 i) ++ ending (g.1 i)

pub refused : (v : Notator) (p : ℕ) (ts : List Tree) → v.bad ≡ Some p → IsHeld v (top ts) no_part → LowestBadText (trees ts) p
refused v p ts is h = let g = subst (IsLowest (IsBadAmong (trees ts))) is h.bad in record { is = g.0; lowest = g.1 }
