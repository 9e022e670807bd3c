-- The end of a text: its bytes, or why it has none.
use Rattle.std.specs.Prelude.{◌≡◌, ◌∷◌}
use Rattle.cborn_edn.proofs.Common.{arith, refl, sym, ap, ◌∙◌, subst, ℕ, List, [], length, Bool, true, false, Option, Some, None, inl, inr, top, no_part, Tree, trees, FitsAll, Speller, HasTokens, Profile, MeaningError, UnexpectedEnd, Refused, IsText, Notates, IsNoNotation, Item, Pieces, string, RowBefore, no_item, after_row, no_pair, after_pairs, row, Input, items, node, nodes_before, nodes_of_input, faults_of_input, Here, Writer, is_none, phase_of, stack_in, level_of, chunks_in, Shows, listed_trees, trees-listed, Holds, Handed, AllHanded, Reads, may_end, Last, item, pieces, AtEnd, Reached, IsReadTo, in_row, in_key, at_top, in_array, in_embed, as_item, as_chunk, State, wants, has, builds, start, finish, at_end, whole_text}
use Rattle.cborn_edn.specs.devices.Syntax.{nothing}
use Rattle.cborn_edn.proofs.Grammar.Parser.{Meets, parses}
use Rattle.cborn_edn.proofs.Meaning.Earliest.{Tells, tells, none_first}
use Rattle.cborn_edn.proofs.Meaning.NoError.{nil_is}
use Rattle.cborn_edn.proofs.Short.Rebuilt.{text_of}
use Rattle.cborn_edn.proofs.HandedOver.Silent.{listed_snoc}
use Rattle.cborn_edn.specs.devices.Reading.{ends_string, empty}

-- outside of each `<<` there are no spellers
outside : (h : Holds) (ps : List Speller) (s : State) → AllHanded h ps (s ∷ []) → Handed h s
outside h [] s t = t
outside h (p ∷ []) s t = absurd t.1
outside h (p ∷ q ∷ ps) s t = absurd t.1

-- before the first token
pub first_reads : {h : Holds} (here : Here) (w : Writer) → w.spellers ≡ [] → h (top []) no_part → Shows here w w.pieces.items start → Reads h here w w.pieces.items start
first_reads {h = h} here w none new e = record { shows = e; handed = subst (λ ps. AllHanded h ps (start ∷ [])) (sym none) (λ q. (new, tt)) }

-- whether the text may end
pub data Ends (s : State) (b : Bool) : Type 0 where
  some : (t : Input) → b ≡ true → finish s ≡ Some t → Last s t → Ends s b
  none : b ≡ false → finish s ≡ None → Ends s b

pub ends : (s : State) → Ends s (may_end (phase_of s) (level_of (stack_in s)) (chunks_in s))
ends (wants (in_row at_top no_item)) = some nothing refl refl empty
ends (wants (in_row at_top (after_row r c))) = none refl refl
ends (has (in_row at_top b) i) = some (items (row b i)) refl refl (item b i)
ends (builds (as_item (in_row at_top b)) ps) = some (items (row b (string ps))) refl refl (pieces b ps)
ends (builds (as_chunk (in_row at_top b) s d) ps) = none refl refl
ends (wants (in_row (in_array st s m) no_item)) = none refl refl
ends (wants (in_row (in_array st s m) (after_row r c))) = none refl refl
ends (wants (in_row (in_embed h o s) no_item)) = none refl refl
ends (wants (in_row (in_embed h o s) (after_row r c))) = none refl refl
ends (wants (in_key st s m no_pair)) = none refl refl
ends (wants (in_key st s m (after_pairs q c))) = none refl refl
ends _ = none refl refl

-- what is kept at the end
pub item_end : {h : Holds} (here : Here) (w : Writer) (b : RowBefore) (i : Item) → Reads h here w w.pieces.items (has (in_row at_top b) i) → AtEnd h (items (row b i)) w
item_end {h = h} here w b i e = record {
  error = e.shows.error;
  held = λ none. subst (λ ts. h (top ts) no_part × FitsAll (trees ts)) (sym (listed_snoc (nodes_before b) (node i))) (outside h w.spellers (has (in_row at_top b) i) e.handed none);
}

pub bare_end : {h : Holds} (here : Here) (w : Writer) (s : State) (t : Input) → Last s t → ends_string here.phase ≡ false → Reads h here w w.pieces.items s → AtEnd h t w
bare_end {h = h} here w s t empty n e = record { error = e.shows.error; held = outside h w.spellers start e.handed }
bare_end here w s t (item b i) n e = item_end here w b i e
bare_end here w s t (pieces b ps) n e = absurd (let bad : true ≡ false = ap ends_string (sym e.shows.phase) ∙ n in cc)

pub string_end : (s : State) (t : Input) → Last s t → ends_string (phase_of s) ≡ true → (b : RowBefore) × (ps : Pieces) × (builds (as_item (in_row at_top b)) ps ≡ s) × (items (row b (string ps)) ≡ t)
string_end s t empty n = absurd (let bad : false ≡ true = n in cc)
string_end s t (item b i) n = absurd (let bad : false ≡ true = n in cc)
string_end s t (pieces b ps) n = (b, ps, refl, refl)

module _ (p : Profile) (limit : ℕ) (text : List ℕ) (s : State) (r : Reached p limit text (length text) s) where
  lex : HasTokens p text r.tokens
  lex = whole_text p text r.tokens r.between

  met : (o : Option Input) → finish s ≡ o → Meets p limit (length text) r.tokens (at_end (length text) o)
  met o h1 = grind (arith, parses)

  pub cut_short : finish s ≡ None → IsNoNotation p limit text (Refused (length text) UnexpectedEnd)
  cut_short e = inl (r.tokens, lex, met None e)

  is_text : (t : Input) → finish s ≡ Some t → IsText p limit r.tokens (nodes_of_input t) (faults_of_input t)
  is_text t e = let m = met (Some t) e in text_of p limit r.tokens t m.0 m.1

  pub meaning_refused : {h : Holds} (t : Input) (w : Writer) (error : MeaningError) → finish s ≡ Some t → AtEnd h t w → w.error ≡ Some error → IsNoNotation p limit text (Refused error.place error.reason)
  meaning_refused t w error e k is =
      inr (r.tokens, nodes_of_input t, faults_of_input t, lex, is_text t e, subst (Tells (faults_of_input t)) (sym k.error ∙ is) (tells (faults_of_input t)))

  pub held_text : {h : Holds} (t : Input) (w : Writer) → finish s ≡ Some t → AtEnd h t w → w.error ≡ None → (nodes : List Tree) × h (top nodes) no_part × Notates p limit text (trees nodes) × FitsAll (trees nodes)
  held_text t w e k no_error =
      let ts = nodes_of_input t in
      let none : faults_of_input t ≡ [] = nil_is (faults_of_input t) (sym (none_first (faults_of_input t)) ∙ ap is_none (sym k.error ∙ no_error)) in
      let is = subst (IsText p limit r.tokens ts) none (is_text t e) in
      (listed_trees ts, (k.held none).0, subst (Notates p limit text) (sym (trees-listed ts)) (r.tokens, lex, is), (k.held none).1)

module _ {h : Holds} {p : Profile} {limit : ℕ} {text : List ℕ} (here : Here) (w : Writer) (r : IsReadTo h p limit text here w) where
  same_end : may_end (phase_of r.state) (level_of (stack_in r.state)) (chunks_in r.state) ≡ may_end here.phase here.level w.chunks
  same_end = let e = r.shows.shows in sym (λ i. may_end (e.phase i) (e.level i) (e.chunks i))

  pub at_end_of : may_end here.phase here.level w.chunks ≡ true → (t : Input) × (finish r.state ≡ Some t) × Last r.state t
  at_end_of e = elim (ends r.state) [ some t b f l ↦ (t, f, l) | none b f ↦ absurd (let bad : false ≡ true = sym b ∙ same_end ∙ e in cc) ]

  pub not_at_end : may_end here.phase here.level w.chunks ≡ false → finish r.state ≡ None
  not_at_end e = elim (ends r.state) [ some t b f l ↦ absurd (let bad : true ≡ false = sym b ∙ same_end ∙ e in cc) | none b f ↦ f ]
