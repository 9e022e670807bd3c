-- Tokens that hand nothing over.
use Rattle.std.specs.Prelude.{◌≡◌, ◌∷◌, ◌++◌}
use Rattle.cborn_edn.proofs.Common.{arith, refl, sym, ap, ◌∙◌, subst, ℕ, Bool, List, [], Option, append_assoc, Tree, Trees, more, Entries, no_entry, entry, Partial, no_part, put, Speller, Mark, Span, Item, simple, Piece, embedded, Pieces, also, no_string, row, RowBefore, after_row, Content, pairs, PairsBefore, after_pairs, Stack, in_row, in_key, in_value, Nest, at_top, in_array, in_embed, Home, State, wants, has, builds, wants_chunk, wants_number, has_number, at_home, with_piece, faults_of_pieces, snoc, snoc_entry, noted, noted_home, stack_of, stack_in, content_state, listed_trees, Holds, FitsSoFar, listed_entries, states_around, states_around_home, row_front, front, Handed, AllHanded, no_node}
use Rattle.cborn_edn.proofs.Meaning.NoError.{no_left}
use Rattle.cborn_edn.proofs.HandedOver.Handing.{stays}

pub listed_snoc : (ts : Trees) (t : Tree) → listed_trees (snoc ts t) ≡ listed_trees ts ++ (t ∷ [])
listed_snoc no_node t = refl
listed_snoc (more u ts) t = ap (λ l. u ∷ l) (listed_snoc ts t)

pub listed_snoc_entry : (es : Entries) (k v : Tree) → listed_entries (snoc_entry es k v) ≡ (listed_entries es ++ (k ∷ [])) ++ (v ∷ [])
listed_snoc_entry no_entry k v = refl
listed_snoc_entry (entry l w es) k v = ap (λ x. l ∷ w ∷ x) (listed_snoc_entry es k v)

-- what is held stays so, if the front doesn't change and no meaning error goes
pub handed_same : (h : Holds) (s u : State) → front s ≡ front u → (noted u ≡ [] → noted s ≡ []) → Handed h s → Handed h u
handed_same h s u f n t q = let e = t (n q) in (subst (λ (x : Partial). h x no_part) f e.0, subst FitsSoFar f e.1)

pub row_put : (n : Nest) (ts : List Tree) (t : Tree) → put (row_front n ts) t ≡ row_front n (ts ++ (t ∷ []))
row_put at_top ts t = refl
row_put (in_array st s m) ts t = refl
row_put (in_embed home o s) ts t = refl

pub handed_comma : (h : Holds) (n : Nest) (b : RowBefore) (i : Item) (a : Span) → Handed h (has (in_row n b) i) → Handed h (wants (in_row n (after_row (row b i) a)))
handed_comma h n b i a h1 = grind (arith, append_assoc, handed_same, listed_snoc, row_put)

pub handed_pairs_comma : (h : Holds) (st : Stack) (s : Span) (m : Mark) (b : PairsBefore) (k : Item) (c : Span) (v : Item) (a : Span) → Handed h (has (in_value st s m b k c) v) → Handed h (wants (in_key st s m (after_pairs (pairs b k c v) a)))
handed_pairs_comma h st s m b k c v a h1 = grind (arith, append_assoc, handed_same, listed_snoc_entry)

pub handed_open_simple : (h : Holds) (st : Stack) (a : Span) → Handed h (wants st) → Handed h (wants_number st a)
handed_open_simple h st a = handed_same h (wants st) (wants_number st a) refl (λ q. q)

pub handed_close_simple : (h : Holds) (st : Stack) (s b : Span) (n : Bool) (v : ℕ) (m : Mark) (a : Span) → Handed h (has_number st s b n v m) → Handed h (has st (simple s b n v m a))
handed_close_simple h st s b n v m a = handed_same h (has_number st s b n v m) (has st (simple s b n v m a)) refl (λ q. q)

pub handed_open_chunks : (h : Holds) (st : Stack) (a : Span) → Handed h (wants st) → Handed h (wants_chunk st a no_string)
handed_open_chunks h st a = handed_same h (wants st) (wants_chunk st a no_string) refl (no_left _ _)

handed_join : (h : Holds) (home : Home) (ps : Pieces) (p : Piece) → Handed h (builds home ps) → Handed h (builds home (also ps p))
handed_join h home ps p = handed_same h (builds home ps) (builds home (also ps p)) refl (λ q. no_left _ _ (append_assoc (noted_home home) (faults_of_pieces ps) _ ∙ q))

-- one more piece of a string, which may be the first
handed_piece : (h : Holds) (ps : List Speller) (home : Home) (o : Option Pieces) (p : Piece) → AllHanded h ps (at_home home o ∷ states_around_home home) → AllHanded h ps (builds home (with_piece o p) ∷ states_around (stack_of home))
handed_piece h ps home o p h1 = grind (arith, handed_join, handed_same, no_left, stays)

-- the states around a string
pub around_string : (home : Home) (o : Option Pieces) → states_around (stack_in (at_home home o)) ≡ states_around_home home
around_string home o = grind arith

pub piece_handed : (h : Holds) (ps qs : List Speller) (home : Home) (o : Option Pieces) (p : Piece) → qs ≡ ps → AllHanded h ps (at_home home o ∷ states_around (stack_in (at_home home o))) → AllHanded h qs (builds home (with_piece o p) ∷ states_around (stack_of home))
piece_handed h ps qs home o p e t = subst (λ (l : List Speller). AllHanded h l (builds home (with_piece o p) ∷ states_around (stack_of home))) (sym e) (handed_piece h ps home o p (subst (λ (ss : List State). AllHanded h ps (at_home home o ∷ ss)) (around_string home o) t))

-- a `<<` ends, and its string goes on around it
pub embed_closed : (h : Holds) (p : Speller) (ps : List Speller) (home : Home) (o : Option Pieces) (s : Span) (c : Content) (a : Span) (m : Mark) → AllHanded h (p ∷ ps) (content_state (in_embed home o s) c ∷ states_around (stack_in (content_state (in_embed home o s) c))) → AllHanded h ps (builds home (with_piece o (embedded s c a m)) ∷ states_around (stack_of home))
embed_closed h p ps home o s c a m h1 = grind (arith, handed_piece)
