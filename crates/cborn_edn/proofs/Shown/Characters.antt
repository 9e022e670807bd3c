-- The text of the fixed notation is UTF-8.
use Rattle.std.specs.Prelude.{◌≡◌, ◌+◌, ◌^◌, ◌<◌, ◌≤◌, ◌∷◌, ◌++◌, ◌&&◌}
use Rattle.hex.specs.Hex.{encode_with}
use Rattle.cborn_edn.proofs.Common.{refl, sym, ap, subst, append_assoc, ℕ, suc, List, [], map, length, get_or, take, Bool, true, false, ltb, eqb, cond, inl, inr, decimal, arith, and_parts, ltb-true, cases_lt, take_more, take_all, IsUtf8-append, IsUtf8-nil, IsUtf8-from_ascii, IsUtf8-from_is_utf8, is_utf8-from_IsUtf8, IsAscii-nil, IsAscii-cons, IsAscii-decimal_wide, codes, flat_map, IsUtf8, IsAscii, is_utf8, lower_digits, Width, Chunk, Tree, Uint, Nint, ByteChunks, TextChunks, Items, Tagged, Simple, Trees, more, trees, Entries, no_entry, entry, count, count_entries, Fits, FitsAll, FitsEntries, Mark, StringKind, OfBytes, OfText, is_good, others, mark_for, mark_for_size, escaped, indicator, opened, shown_string, shown_chunk, joined_by, shown_chunks, shown_simple, shown, item_texts, pair_texts, shown_lines, Shown, AreTexts, IsShowable, EachShowable, ArePairsShowable, ByteNode, TextNode, Pairs as PairNode, no_node, IsAscii-encode_with, simple_below, passes, passes_at}
use Rattle.cborn_edn.proofs.Reader.Utf8.{is_low, low_ascii, exchanged}
use Rattle.cborn_edn.proofs.RoundTrip.Back.{below}
use Rattle.cborn_edn.proofs.HandedOver.Fitting.{fits_last}
use Rattle.cborn_edn.proofs.Shown.Lowests.{utf8_is}

-- Text with its escapes.

each_low : passes (λ b. ltb 0 (length (escaped b)) && is_low (escaped b)) 0 128 ≡ true
unfolding encode_with
each_low = grind arith

escaped_low : (b : ℕ) → b < 128 → IsAscii (escaped b) × (0 < length (escaped b))
escaped_low b h1 = grind (arith, and_parts, each_low, low_ascii, ltb-true, passes_at)

-- a byte that isn't ASCII stands for itself
plain : (b : ℕ) → 128 ≤ b → escaped b ≡ b ∷ []
plain b h = grind arith

-- each byte of ASCII is written as ASCII, and any other for itself
abbrev Writes : (ℕ → List ℕ) → Type 0
Writes f = (b : ℕ) → (b < 128 → IsAscii (f b) × (0 < length (f b))) × (128 ≤ b → f b ≡ b ∷ [])

-- what is written in one such way is UTF-8 if what is written in another is
rewritten : (f g : ℕ → List ℕ) → Writes f → Writes g → (a x : List ℕ) → IsUtf8 (a ++ flat_map f x) → IsUtf8 (a ++ flat_map g x)
rewritten f g by to a [] u = u
rewritten f g by to a (b ∷ x) u = elim (cases_lt b 128) [
  | inl low ↦ exchanged a (f b) (g b) (flat_map f x) (flat_map g x) ((by b).0 low).0 ((by b).0 low).1 (IsUtf8-from_ascii (g b) ((to b).0 low).0) (rewritten f g by to [] x) u
  | inr high ↦
      let one : IsUtf8 (a ++ (b ∷ flat_map f x)) = subst (λ (e : List ℕ). IsUtf8 (a ++ (e ++ flat_map f x))) ((by b).1 high) u in
      let rest = rewritten f g by to (a ++ b ∷ []) x (subst IsUtf8 (sym (append_assoc a (b ∷ []) (flat_map f x))) one) in
      subst (λ (e : List ℕ). IsUtf8 (a ++ (e ++ flat_map g x))) (sym ((to b).1 high)) (subst IsUtf8 (append_assoc a (b ∷ []) (flat_map g x)) rest)
]

itself : (x : List ℕ) → flat_map (λ b. b ∷ []) x ≡ x
itself [] = refl
itself (b ∷ x) = ap (λ y. b ∷ y) (itself x)

escapes : Writes escaped
escapes b = (escaped_low b, plain b)

spells : Writes (λ b. b ∷ [])
spells b = (λ low. (IsAscii-cons b [] low IsAscii-nil, omega arith), λ high. refl)

escaped_text : (x : List ℕ) → is_utf8 x ≡ true → IsUtf8 (flat_map escaped x)
escaped_text x h = rewritten (λ b. b ∷ []) escaped spells escapes [] x (subst IsUtf8 (sym (itself x)) (IsUtf8-from_is_utf8 x h))

-- text with its escapes is UTF-8 only if the text is
pub unescaped : (x : List ℕ) → IsUtf8 (flat_map escaped x) → IsUtf8 x
unescaped x u = subst IsUtf8 (itself x) (rewritten escaped (λ b. b ∷ []) escapes spells [] x u)

pub same_utf8 : (x : List ℕ) → is_utf8 (flat_map escaped x) ≡ is_utf8 x
same_utf8 x = utf8_is (is_utf8 (flat_map escaped x)) x (λ e. unescaped x (IsUtf8-from_is_utf8 _ e)) (λ u. is_utf8-from_IsUtf8 _ (escaped_text x (is_utf8-from_IsUtf8 x u)))

-- Nodes.

ascii : (x : List ℕ) → is_low x ≡ true → IsUtf8 x
ascii x h = IsUtf8-from_ascii x (low_ascii x h)

pub indicator_low : (m : Mark) → is_low (indicator m) ≡ true
indicator_low m = grind arith

pub opened_low : (m : Mark) → is_low (opened m) ≡ true
opened_low m = grind arith

indicator_text : (m : Mark) → IsUtf8 (indicator m)
indicator_text m = ascii (indicator m) (indicator_low m)

opened_text : (m : Mark) → IsUtf8 (opened m)
opened_text m = ascii (opened m) (opened_low m)

number_text : (n : ℕ) → n < 2 ^ 65 → IsUtf8 (decimal n)
number_text n h = IsUtf8-from_ascii (decimal n) (IsAscii-decimal_wide n (omega arith))

string_text : (k : StringKind) (w : Width) (x : List ℕ) → is_good k x ≡ true → IsUtf8 (shown_string k w x)
string_text OfBytes w x h = IsUtf8-append _ _ (ascii (codes "h'") refl) (IsUtf8-append _ _ (IsUtf8-from_ascii _ (IsAscii-encode_with lower_digits x (low_ascii lower_digits refl))) (IsUtf8-append _ _ (ascii (codes "'") refl) (indicator_text (mark_for w (length x)))))
string_text OfText w x h = IsUtf8-append _ _ (ascii (codes "\"") refl) (IsUtf8-append _ _ (escaped_text x h) (IsUtf8-append _ _ (ascii (codes "\"") refl) (indicator_text (mark_for w (length x)))))

abbrev pub AreGood : StringKind → List Chunk → Type 0
AreGood k [] = Unit {0}
AreGood k (c ∷ cs) = (is_good k c.bytes ≡ true) × AreGood k cs

pub bytes_good : (cs : List Chunk) → AreGood OfBytes cs
bytes_good [] = tt
bytes_good (c ∷ cs) = (refl, bytes_good cs)

pub texts_good : (cs : List Chunk) → AreTexts cs → AreGood OfText cs
texts_good cs h1 = grind arith

-- texts one after another

abbrev pub EachUtf8 : List (List ℕ) → Type 0
EachUtf8 [] = Unit {0}
EachUtf8 (x ∷ xs) = IsUtf8 x × EachUtf8 xs

others_text : (sep : List ℕ) (xs : List (List ℕ)) → IsUtf8 sep → EachUtf8 xs → IsUtf8 (others sep xs)
others_text sep [] s h = IsUtf8-nil
others_text sep (x ∷ xs) s h = IsUtf8-append _ _ (IsUtf8-append _ _ s h.0) (others_text sep xs s h.1)

joined_text : (sep : List ℕ) (xs : List (List ℕ)) → IsUtf8 sep → EachUtf8 xs → IsUtf8 (joined_by sep xs)
joined_text sep [] s h = IsUtf8-nil
joined_text sep (x ∷ xs) s h = IsUtf8-append _ _ h.0 (others_text sep xs s h.1)

each_chunk : (k : StringKind) (cs : List Chunk) → AreGood k cs → EachUtf8 (map (shown_chunk k) cs)
each_chunk k [] h = tt
each_chunk k (c ∷ cs) h = (string_text k c.width c.bytes h.0, each_chunk k cs h.1)

some_chunks : (k : StringKind) (cs : List Chunk) → AreGood k cs → IsUtf8 (codes "(_ " ++ (joined_by (codes ", ") (map (shown_chunk k) cs) ++ codes ")"))
some_chunks k cs h = IsUtf8-append _ _ (ascii (codes "(_ ") refl) (IsUtf8-append _ _ (joined_text (codes ", ") _ (ascii (codes ", ") refl) (each_chunk k cs h)) (ascii (codes ")") refl))

chunks_text : (k : StringKind) (cs : List Chunk) → AreGood k cs → IsUtf8 (shown_chunks k cs)
chunks_text k cs h1 = grind (arith, ascii, some_chunks)

simple_text : (n : ℕ) → n < 256 → IsUtf8 (shown_simple n)
simple_text n h = go (eqb n 20) (eqb n 21) (eqb n 22) (eqb n 23)
  where
    go : (a b c d : Bool) → IsUtf8 (cond a (codes "false") (cond b (codes "true") (cond c (codes "null") (cond d (codes "undefined") (codes "simple(" ++ (decimal n ++ codes ")"))))))
    go true b c d = ascii _ refl
    go false true c d = ascii _ refl
    go false false true d = ascii _ refl
    go false false false true = ascii _ refl
    go false false false false = IsUtf8-append _ _ (ascii (codes "simple(") refl) (IsUtf8-append _ _ (number_text n (omega arith)) (ascii (codes ")") refl))

mutual
  node_text : (t : Tree) → Fits t → IsShowable t → IsUtf8 (shown t)
  node_text (Uint p w n) h s = let l = below w n h in IsUtf8-append _ _ (number_text n (omega arith)) (indicator_text (mark_for w n))
  node_text (Nint p w n) h s = let l = below w n h in IsUtf8-append _ _ (ascii (codes "-") refl) (IsUtf8-append _ _ (number_text (suc n) (omega arith)) (indicator_text (mark_for w n)))
  node_text (ByteNode p w x) h s = string_text OfBytes w x refl
  node_text (TextNode p w x) h s = string_text OfText w x s
  node_text (ByteChunks p cs) h s = chunks_text OfBytes cs (bytes_good cs)
  node_text (TextChunks p cs) h s = chunks_text OfText cs (texts_good cs s)
  node_text (Items p z ts) h s = IsUtf8-append _ _ (ascii (codes "[") refl) (IsUtf8-append _ _ (opened_text (mark_for_size z (count ts))) (IsUtf8-append _ _ (joined_text (codes ", ") _ (ascii (codes ", ") refl) (each_item ts h.1 s)) (ascii (codes "]") refl)))
  node_text (PairNode p z es) h s = IsUtf8-append _ _ (ascii (codes "{") refl) (IsUtf8-append _ _ (opened_text (mark_for_size z (count_entries es))) (IsUtf8-append _ _ (joined_text (codes ", ") _ (ascii (codes ", ") refl) (each_pair es h.1 s)) (ascii (codes "}") refl)))
  node_text (Tagged p w n t) h s =
      let l = below w n h.0 in
      IsUtf8-append _ _ (number_text n (omega arith)) (IsUtf8-append _ _ (indicator_text (mark_for w n)) (IsUtf8-append _ _ (ascii (codes "(") refl) (IsUtf8-append _ _ (node_text t h.1 s) (ascii (codes ")") refl))))
  node_text (Simple p n) h s = simple_text n (simple_below n h)

  each_item : (ts : Trees) → FitsAll ts → EachShowable ts → EachUtf8 (item_texts ts)
  each_item no_node h s = tt
  each_item (more t ts) h s = (node_text t h.0 s.0, each_item ts h.1 s.1)

  each_pair : (es : Entries) → FitsEntries es → ArePairsShowable es → EachUtf8 (pair_texts es)
  each_pair no_entry h s = tt
  each_pair (entry k v es) h s = (IsUtf8-append _ _ (node_text k h.0 s.0) (IsUtf8-append _ _ (ascii (codes ": ") refl) (node_text v h.1 s.1)), each_pair es h.2 s.2)

pub lines_text : (ts : Trees) → FitsAll ts → EachShowable ts → IsUtf8 (shown_lines ts)
lines_text no_node h s = IsUtf8-nil
lines_text (more t ts) h s = IsUtf8-append _ _ (joined_text (codes ",\n") (item_texts (more t ts)) (ascii (codes ",\n") refl) (each_item (more t ts) h s)) (ascii (codes "\n") refl)

pub is_text : (nodes : Trees) (text : List ℕ) → FitsAll nodes → Shown nodes text → is_utf8 text ≡ true
is_text nodes text fits shown = is_utf8-from_IsUtf8 text shown.0

-- Nodes that fit, one after another.

pub fits_more : (xs : List Tree) (i : ℕ) (x : Tree) → i < length xs → x ≡ get_or xs i x → FitsAll (trees (take i xs)) → Fits x → FitsAll (trees (take (i + 1) xs))
fits_more xs i x h1 h2 h3 h4 = grind (arith, fits_last, take_more)

pub fits_whole : (xs : List Tree) (i : ℕ) → length xs ≤ i → FitsAll (trees (take i xs)) → FitsAll (trees xs)
fits_whole xs i h all = subst (λ ys. FitsAll (trees ys)) (take_all i xs h) all
