-- Containers that end, leaves, and heads that are handed over.
use Rattle.std.specs.Prelude.{◌≡◌, ◌<◌, ◌^◌, ◌∷◌, ◌++◌}
use Rattle.cborn_edn.proofs.Common.{arith, refl, sym, ap, ◌∙◌, subst, ℕ, List, [], length, Bool, true, false, cond, None, append_assoc, Width, Tree, Pairs, Trees, Entries, no_entry, entry, entries, count, count_entries, Opening, an_array, a_map, a_tag, Partial, inside, put, paired, last_key, built, ended_size, IsFree, Ends, Mark, Close, width, size, size_errors, listed_trees, trees-listed, Span, Item, tag, array, row, Content, loose, tight, pairs, Fields, loose_fields, tight_fields, Stack, in_tag, in_array, State, has, node, nodes_in, entries_before, entries_in, faults, faults_before, faults_in, faults_before_pairs, faults_of_fields, noted, noted_stack, content_state, fields_state, AreFew, Comes, listed_entries, size_asked, front_of, front, Hands, count-trees, count_entries-entries, map_item as map, digits_of, integer_tree, is_below, argument_of, is_small, integer, bignum, number_node, Integer, Bignum, Tag, number, wants}
use Rattle.cborn_edn.specs.devices.Events.{after}
use Rattle.cborn_edn.proofs.Meaning.NoError.{no_left, no_right, tag_small}
use Rattle.cborn_edn.proofs.HandedOver.Handing.{free}
use Rattle.cborn_edn.proofs.HandedOver.Silent.{listed_snoc, listed_snoc_entry}

listed_count : (ts : Trees) → length (listed_trees ts) ≡ count ts
listed_count ts = sym (count-trees (listed_trees ts)) ∙ ap count (trees-listed ts)

paired_listed : (es : Entries) → (entries (paired (listed_entries es)) ≡ es) × (last_key (listed_entries es) ≡ None)
paired_listed no_entry = (refl, refl)
paired_listed (entry k v es) = let h = paired_listed es in (ap (entry k v) h.0, h.1)

paired_count : (es : Entries) → length (paired (listed_entries es)) ≡ count_entries es
paired_count es = sym (count_entries-entries (paired (listed_entries es))) ∙ ap count_entries (paired_listed es).0

-- the size that a head says at the end is that which the indicator asks for
size_ended : (p : ℕ) (m : Mark) (n : ℕ) → size_errors p m n ≡ [] → ended_size (size_asked m) None n ≡ size m n
size_ended p m n e = grind arith

-- the end of a container leads from what is open to what is whole
pub hands_close : (s u : State) (f : Partial) (o : Opening) (ts : List Tree) → front s ≡ inside f o ts → IsFree f → Ends o ts → AreFew o ts → (noted u ≡ [] → noted s ≡ []) → (noted u ≡ [] → put f (built o ts) ≡ front u) → Hands Close 0 [] s u
hands_close s u f o ts e stood ends few less is q = (less q, subst (λ (x : Partial). Comes Close x) (sym e) (stood, ends, few), ap (after Close 0 []) e ∙ is q)

pub content_around : (st : Stack) (s : Span) (m : Mark) (c : Content) → front (content_state (in_array st s m) c) ≡ inside (front_of st) (an_array s.start (size_asked m) None) (listed_trees (nodes_in c))
content_around st s m c = grind (arith, listed_snoc)

pub hands_array_end : (st : Stack) (s a : Span) (m : Mark) (c : Content) → count (nodes_in c) < 2 ^ 64 → Hands Close 0 [] (content_state (in_array st s m) c) (has st (array s m c a))
hands_array_end st s a m c h1 = grind (arith, an_array, append_assoc, array, content_around, content_state, count, ended_size, faults, faults_before, faults_in, free, front_of, hands_close, has, in_array, listed_count, listed_trees, loose, no_left, no_right, nodes_in, noted, noted_stack, put, row, size_asked, size_ended, tight, trees-listed)

pub hands_map_end : (st : Stack) (s a : Span) (m : Mark) (c : Fields) → count_entries (entries_in c) < 2 ^ 64 → Hands Close 0 [] (fields_state st s m c) (has st (map s m c a))
hands_map_end st s a m c few = hands_close (fields_state st s m c) (has st (map s m c a)) (front_of st) (a_map s.start (size_asked m) None) (listed_entries (entries_in c)) (fronts c) (free st) (tt, (paired_listed (entries_in c)).1) (subst (λ n. n < 2 ^ 64) (sym (paired_count (entries_in c))) few) (less c)
    (λ q i. put (front_of st) (Pairs s.start ((ap (ended_size (size_asked m) None) (paired_count (entries_in c)) ∙ size_ended s.start m (count_entries (entries_in c)) (no_right (faults_of_fields c) _ (no_right (noted_stack st) _ q))) i) ((paired_listed (entries_in c)).0 i)))
  where
    fronts : (c : Fields) → front (fields_state st s m c) ≡ inside (front_of st) (a_map s.start (size_asked m) None) (listed_entries (entries_in c))
    fronts (loose_fields b) = refl
    fronts (tight_fields (pairs b k d v)) = ap (inside (front_of st) (a_map s.start (size_asked m) None)) (sym (listed_snoc_entry (entries_before b) (node k) (node v)))

    less : (c : Fields) → noted (has st (map s m c a)) ≡ [] → noted (fields_state st s m c) ≡ []
    less (loose_fields b) q = no_left _ _ (append_assoc (noted_stack st) (faults_before_pairs b) _ ∙ q)
    less (tight_fields (pairs b k d v)) q = simp append_assoc (no_left _ _ (append_assoc (noted_stack st) (faults_before_pairs b ++ (faults k ++ faults v)) _ ∙ q))

pub hands_tag_end : (st : Stack) (s a : Span) (n : ℕ) (m : Mark) (i : Item) → Hands Close 0 [] (has (in_tag st s n m) i) (has st (tag s n m i a))
hands_tag_end st s a n m i = hands_close (has (in_tag st s n m) i) (has st (tag s n m i a)) (front_of st) (a_tag s.start (width m n) n) (node i ∷ []) refl (free st) (node i, refl) tt (λ q. append_assoc (noted_stack st) _ (faults i) ∙ q) (λ q. refl)

-- Heads that are handed over, and leaves.

integer_is : (p : ℕ) (b : Bool) (w : Width) (n : ℕ) → integer_tree p b w n ≡ cond b (integer_tree p true w n) (integer_tree p false w n)
integer_is p b w n = grind arith

-- the node of an integer of 64 bits
small_is : (p : ℕ) (n : Bool) (v : ℕ) (m : Mark) → is_small n v ≡ true → integer_tree p (is_below n v) (width m (argument_of n v)) (argument_of n v) ≡ number_node p n v m
small_is p n v m e = integer_is p (is_below n v) (width m (argument_of n v)) (argument_of n v) ∙ sym (ap (λ b. cond b (integer p n v (width m (argument_of n v))) (bignum p n v)) e)

module _ (st : Stack) (a : Span) {place : ℕ} (p : place ≡ a.start) where
  pub hands_tag : (m : Mark) (v n : ℕ) (wide : Width) → (v < 2 ^ 64 → n ≡ v) → wide ≡ width m n → Hands (Tag wide n) place [] (wants st) (wants (in_tag st a v m))
  hands_tag m v n wide h1 h2 = grind (arith, free, no_left, no_right, tag_small)

  pub hands_integer : (n : Bool) (v : ℕ) (m : Mark) (below : Bool) (wide : Width) (argument : ℕ) → is_small n v ≡ true → below ≡ is_below n v → argument ≡ argument_of n v → wide ≡ width m argument → Hands (Integer below wide argument) place [] (wants st) (has st (number a n v m))
  hands_integer n v m below wide argument e b f w q = (no_left _ _ q, free st, (λ i. put (front_of st) (integer_tree (p i) (b i) ((w ∙ ap (width m) f) i) (f i))) ∙ ap (put (front_of st)) (small_is a.start n v m e))

  pub hands_bignum : (n : Bool) (v : ℕ) (m : Mark) (below : Bool) (argument : ℕ) → is_small n v ≡ false → below ≡ is_below n v → argument ≡ argument_of n v → Hands (Bignum below) place (digits_of 256 argument) (wants st) (has st (number a n v m))
  hands_bignum n v m below argument h1 h2 h3 = grind (arith, free, no_left)
