-- What a walk over nodes hands to a visitor.
use Rattle.std.specs.Prelude.{◌≡◌, ◌+◌, ◌<◌, ◌∷◌, ◌++◌}
use Rattle.cborn_model.proofs.Common.{refl, sym, ap, ◌∙◌, subst, ℕ, suc, List, [], length, map, get_or, take, Option, Some, None, Result, Ok, Err, OnOk, arith, append-nil, take_more, length-take, map-append, option_to_list, SizeFits, Fits, FitsAll, FitsEntries, Chunk, Size, Fixed, Endless, Tree, Bytes, Text, Pairs, trees, entries, depth, depth_all, depth_entries, Partial, Opening, a_map, in_chunks, inside, put, paired, last_key, chunk_of, chunks_of, chunks_tree, built, IsMore, IsAll, IsString, AreStrings, Ends, IsFree, Proper, TakesString, flat, string_of, count_of}
use Rattle.cborn_model.specs.View.{tree_of}
use Rattle.cborn_model.specs.declared.nodes.Form.{Form}
use Rattle.cborn_model.specs.declared.nodes.Form.TheVariants as forms
use Rattle.cborn_model.proofs.Listed.Trees.{count-trees, count_entries-entries}
use Rattle.cborn_model.specs.declared.visitors.StringKind.{StringKind}
use Rattle.cborn_model.specs.declared.visitors.StringKind.TheVariants.{OfBytes, OfText}

-- fewer than all are there
pub is_more : (c : Option ℕ) (n k : ℕ) → IsAll c n → k < n → IsMore c k
is_more (Some m) n k all h = omega (arith, all, h)
is_more None n k all h = tt

-- a key whose value is missing comes last
pub paired_with : (es : List (Tree × Tree)) (x : Option Tree) → (paired (flat es ++ option_to_list x) ≡ es) × (last_key (flat es ++ option_to_list x) ≡ x)
paired_with [] None = (refl, refl)
paired_with [] (Some k) = (refl, refl)
paired_with (e ∷ es) x = let h = paired_with es x in (ap (λ l. e ∷ l) h.0, h.1)

paired_flat : (es : List (Tree × Tree)) → (paired (flat es) ≡ es) × (last_key (flat es) ≡ None)
paired_flat es = subst (λ l. (paired l ≡ es) × (last_key l ≡ None)) (append-nil (flat es)) (paired_with es None)

pub flat_push : (es : List (Tree × Tree)) (e : Tree × Tree) → (flat es ++ e.0 ∷ []) ++ e.1 ∷ [] ≡ flat (es ++ e ∷ [])
flat_push [] e = refl
flat_push (d ∷ es) e = ap (λ l. d.0 ∷ d.1 ∷ l) (flat_push es e)

counts : (s : Size) (n : ℕ) → IsAll (count_of s n) n
counts (Fixed w) n = refl
counts Endless n = tt

-- one more pair
pub pair_over : (A B C : Partial → Type 0) (xs : List (Tree × Tree)) (i : ℕ) (x : Tree × Tree) → i < length xs → x ≡ get_or xs i x
    → ((f : Partial) → IsFree f → A f → B (put f x.0)) → ((f : Partial) → IsFree f → B f → C (put f x.1))
    → (f : Partial) (p : ℕ) (s : Size) → IsFree f → A (inside f (a_map p s (count_of s (length xs))) (flat (take i xs))) → C (inside f (a_map p s (count_of s (length xs))) (flat (take (i + 1) xs)))
pair_over A B C xs i x h e key value f p s free old =
    let c = count_of s (length xs) in
    let all = counts s (length xs) in
    let es = take i xs in
    let few : length es < length xs = omega (arith, length-take i xs, h) in
    let more : IsMore c (length (paired (flat es))) = subst (λ l. IsMore c (length l)) (sym (paired_flat es).0) (is_more c (length xs) (length es) all few) in
    let most : IsMore c (length (paired (flat es ++ x.0 ∷ []))) = subst (λ l. IsMore c (length l)) (sym (paired_with es (Some x.0)).0) (is_more c (length xs) (length es) all few) in
    subst (λ ts. C (inside f (a_map p s c) ts)) (flat_push es x ∙ ap flat (ap (λ y. es ++ y ∷ []) e ∙ sym (take_more xs i x h)))
    (value (inside f (a_map p s c) (flat es ++ x.0 ∷ [])) ((free.0, free.1, most), tt) (key (inside f (a_map p s c) (flat es)) ((free.0, free.1, more), tt) old))

-- the node of a map of which all pairs were handed over
pub all_pairs : (p : ℕ) (s : Size) (es : List (Tree × Tree)) → Ends (a_map p s (count_of s (length es))) (flat es) × (built (a_map p s (count_of s (length es))) (flat es) ≡ Pairs p s (entries es))
all_pairs p (Fixed w) es = ((ap length (paired_flat es).0, (paired_flat es).1), ap (λ l. Pairs p (Fixed w) (entries l)) (paired_flat es).0)
all_pairs p Endless es = ((tt, (paired_flat es).1), ap (λ l. Pairs p Endless (entries l)) (paired_flat es).0)

-- what a node of an array or a map says of its items and pairs
pub array_fits : (p : ℕ) (f : Form) (t : Tree) (s : Size) (v : _) (ys : List Tree) → tree_of p f ≡ t → f ≡ forms.Items s v → ys ≡ v.items → Fits t → SizeFits s (length ys) × FitsAll (trees ys) × (depth t ≡ suc (depth_all (trees ys)))
array_fits p f t s v ys h1 h2 h3 h4 = grind (arith, count-trees)

pub map_fits : (p : ℕ) (f : Form) (t : Tree) (s : Size) (v : _) (ys : List (Tree × Tree)) → tree_of p f ≡ t → f ≡ forms.Pairs s v → ys ≡ v.items → Fits t → SizeFits s (length ys) × FitsEntries (entries ys) × (depth t ≡ suc (depth_entries (entries ys)))
map_fits p f t s v ys h1 h2 h3 h4 = grind (arith, count_entries-entries)

pub on_ok : {T E : Type 0} {P Q : Type 0} (r : Result T E) → (P → Q) → OnOk r P → OnOk r Q
on_ok (Ok v) go h = go h
on_ok (Err e) go h = h

-- chunks as strings

pub strings : (k : StringKind) (cs : List Chunk) → AreStrings k (map (string_of k) cs) × (chunks_of (map (string_of k) cs) ≡ cs)
strings k [] = (tt, refl)
strings OfBytes (c ∷ cs) = let h = strings OfBytes cs in ((tt, h.0), ap (λ l. c ∷ l) h.1)
strings OfText (c ∷ cs) = let h = strings OfText cs in ((tt, h.0), ap (λ l. c ∷ l) h.1)

string_is : (k : StringKind) (t : Tree) → IsString k t → string_of k (chunk_of t) ≡ t
string_is OfBytes (Bytes p w x) h = refl
string_is OfText (Text p w x) h = refl
string_is k t h = absurd h

pub strings_are : (k : StringKind) (ts : List Tree) → AreStrings k ts → map (string_of k) (chunks_of ts) ≡ ts
strings_are k [] h = refl
strings_are k (t ∷ ts) h = ap (λ u. u ∷ map (string_of k) (chunks_of ts)) (string_is k t h.0) ∙ ap (λ us. t ∷ us) (strings_are k ts h.1)

-- one more chunk
pub chunk_over : (A B : Partial → Type 0) (k : StringKind) (xs : List Chunk) (i : ℕ) (x : Chunk) → i < length xs → x ≡ get_or xs i x
    → ((f : Partial) → Proper f → TakesString f k → A f → B (put f (string_of k x)))
    → (f : Partial) (p : ℕ) → IsFree f → A (inside f (in_chunks p k) (map (string_of k) (take i xs))) → B (inside f (in_chunks p k) (map (string_of k) (take (i + 1) xs)))
chunk_over A B k xs i x h e string f p free old =
    subst (λ ts. B (inside f (in_chunks p k) ts)) (sym (map-append (string_of k) (take i xs) (x ∷ [])) ∙ ap (map (string_of k)) (ap (λ y. take i xs ++ y ∷ []) e ∙ sym (take_more xs i x h)))
    (string (inside f (in_chunks p k) (map (string_of k) (take i xs))) (free.0, free.1, (strings k (take i xs)).0) refl old)

pub chunks_over : (A B : Partial → Type 0) (p : ℕ) (k : StringKind) (cs : List Chunk) → ((f : Partial) (o : Opening) (ts : List Tree) → IsFree f → Ends o ts → A (inside f o ts) → B (put f (built o ts)))
    → (f : Partial) → IsFree f → A (inside f (in_chunks p k) (map (string_of k) cs)) → B (put f (chunks_tree p k cs))
chunks_over A B p k cs h1 f h2 h3 = grind (arith, strings)

pub pairs_over : (A B : Partial → Type 0) (p : ℕ) (s : Size) (es : List (Tree × Tree)) → ((f : Partial) (o : Opening) (ts : List Tree) → IsFree f → Ends o ts → A (inside f o ts) → B (put f (built o ts)))
    → (f : Partial) → IsFree f → A (inside f (a_map p s (count_of s (length es))) (flat es)) → B (put f (Pairs p s (entries es)))
pairs_over A B p s es close f free h =
    let all = all_pairs p s es in
    subst (λ t. B (put f t)) all.1 (close f (a_map p s (count_of s (length es))) (flat es) free all.0 h)
