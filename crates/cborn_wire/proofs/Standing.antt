-- What the visitor which writes bytes holds, as nodes become whole and containers are opened and ended.
use Rattle.std.specs.Prelude.{◌≡◌, ◌+◌, ◌*◌, ◌%◌, ◌^◌, ◌<◌, ◌∷◌, ◌++◌, ◌-◌}
use Rattle.cborn_wire.proofs.Common.{refl, sym, ap, ◌∙◌, subst, ℕ, List, [], length, take, drop, Option, Some, None, arith, append_assoc, append-nil, length-append, take_at, drop_at, get_or, set, get_or-append_seam, set_at, Major, Size, Fixed, Endless, Width, code, head, argument, Tree, trees, ending, spelled, spelled_all, Opening, Partial, inside, put, built, ended_size, IsAll, Ends, announced, OpenSpelling, written, shape, sized_ending, ending_of, counted, containers_of, with_head, entries_in, IsEnded, common_steps, nat_tests, count-trees, count_entries-entries}
use Rattle.cborn_model.proofs.Lengths.{no_more_nodes}
use Rattle.cborn_wire.specs.declared.spellers.Speller.{Speller}
use Rattle.cborn_wire.specs.shared.Spelling.{Stands}
use Rattle.cborn_wire.proofs.Machine.Containers.{pair_count, pairs_spelled, built_spelled}
use Rattle.cborn_wire.proofs.Spelled.TreeLists.{trees-append, spelled_all-append}

-- ---- one more node

nodes_put : (ts : List Tree) (t : Tree) → spelled_all (trees (ts ++ t ∷ [])) ≡ spelled_all (trees ts) ++ spelled t
nodes_put ts t = ap spelled_all (trees-append ts (t ∷ [])) ∙ spelled_all-append (trees ts) (trees (t ∷ [])) ∙ ap (λ l. spelled_all (trees ts) ++ l) (append-nil (spelled t))

counted_push : (ts : List Tree) (t : Tree) → counted (length (ts ++ t ∷ [])) ≡ (counted (length ts) + 1) % 2 ^ 64
counted_push ts t = omega (arith, length-append ts (t ∷ []))

abbrev pub one_more : OpenSpelling → OpenSpelling
one_more c = record c { nodes = (c.nodes + 1) % 2 ^ 64 }

-- the last of n containers is counted up
pub last_counted : (xs outer : List OpenSpelling) (c last : OpenSpelling) (n : ℕ) → n ≡ length xs → last ≡ get_or xs (n - 1) last → xs ≡ outer ++ c ∷ [] → set xs (n - 1) (one_more last) ≡ outer ++ one_more c ∷ []
last_counted xs outer c last n len at is = grind (arith, get_or-append_seam, length-append, set_at)

-- a node whose bytes are written is counted, so that the open containers become u
pub node_counted : (s : Speller) (u : List OpenSpelling) (f : Partial) (t : Tree)
    → ((outer : List OpenSpelling) (c : OpenSpelling) → s.containers.items ≡ outer ++ c ∷ [] → u ≡ outer ++ one_more c ∷ [])
    → (s.containers.items ≡ [] → u ≡ []) → Stands s f (spelled t) → (s.out.items ≡ written (put f t) ++ []) × (u ≡ containers_of (put f t))
node_counted s u f t one none h = grind (arith, append-nil, counted_push, append_assoc, nodes_put)

-- ---- a container ends

-- the head in the place of a byte
head_placed : (m : Major) (w : Width) (n b : ℕ) (front body x y : List ℕ) → x ≡ front ++ (b ∷ body) → (length front < length x → y ≡ with_head m w n (length front) x)
    → y ≡ front ++ (head m (argument (ended_size (Fixed w) None n) n) ++ body)
head_placed m w n b front body x y is done =
    let before : take (length front) x ≡ front = ap (take (length front)) is ∙ take_at front (b ∷ body) (length front) refl in
    let all : x ≡ (front ++ b ∷ []) ++ body = is ∙ sym (append_assoc front (b ∷ []) body) in
    let here : length (front ++ b ∷ []) ≡ length front + 1 = length-append front (b ∷ []) in
    let after : drop (length front + 1) x ≡ body = ap (drop (length front + 1)) all ∙ drop_at (front ++ b ∷ []) body (length front + 1) here in
    done (omega (arith, ap length is, length-append front (b ∷ body))) ∙ (λ i. before i ++ (head m (argument (ended_size (Fixed w) None n) n) ++ after i))

-- an array or a map of n items or pairs
sized_ended : (m : Major) (s : Size) (c : Option ℕ) (k n : ℕ) (front body x y : List ℕ) → entries_in m k ≡ n → IsAll c n → x ≡ front ++ (head m (announced s c) ++ body) → IsEnded (sized_ending m s c) k (length front) x y
    → y ≡ front ++ (head m (argument (ended_size s c n) n) ++ body ++ ending (ended_size s c n))
sized_ended m (Fixed w) None k n front body x y count all is done =
    let start = head m (argument (ended_size (Fixed w) None n) n) in
    head_placed m w n (32 * code m + 31) front body x y is (subst (λ j. length front < length x → y ≡ with_head m w j (length front) x) count done) ∙ ap (λ l. front ++ l) (sym (append-nil (start ++ body)))
sized_ended m (Fixed w) (Some j) k n front body x y count all is done = grind (arith, common_steps, nat_tests, append-nil)
sized_ended m Endless c k n front body x y count all is done = grind (arith, common_steps, nat_tests, append_assoc)

-- Fewer nodes than 2^64 are whole in it, since each has a byte.
all_counted : (ts : List Tree) (front start x : List ℕ) → length x < 2 ^ 64 → x ≡ front ++ (start ++ spelled_all (trees ts)) → counted (length ts) ≡ length ts
all_counted ts front start x few is = grind (arith, length-append, no_more_nodes)

-- what is written once a container has ended
pub container_ended : (f : Partial) (o : Opening) (ts : List Tree) (x y : List ℕ) → Ends o ts → length x < 2 ^ 64 → x ≡ written (inside f o ts) → IsEnded (ending_of (shape o)) (counted (length ts)) (length (written f)) x y → y ≡ written f ++ spelled (built o ts)
container_ended f o ts x y h e g k = grind (arith, common_steps, nat_tests, all_counted, append-nil, append_assoc, built_spelled, count-trees, count_entries-entries, pair_count, pairs_spelled, sized_ended)

pub container_left : (old left : Speller) (given : Option OpenSpelling) (ended : OpenSpelling) (f : Partial) (o : Opening) (ts : List Tree) (y : List ℕ) → Ends o ts → length old.out.items < 2 ^ 64 → left.out.items ≡ old.out.items → given ≡ Some ended
    → ((c : OpenSpelling) (outer : List OpenSpelling) → old.containers.items ≡ outer ++ c ∷ [] → (given ≡ Some c) × (left.containers.items ≡ outer))
    → IsEnded ended.ending ended.nodes ended.start left.out.items y → Stands old (inside f o ts) [] → (y ≡ written f ++ spelled (built o ts)) × (left.containers.items ≡ containers_of f)
container_left old left given ended f o ts y ends few same some leave done h = grind (arith, append-nil, container_ended)
