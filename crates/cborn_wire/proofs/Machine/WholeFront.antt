-- What the machine does doesn't depend on the items that were whole before. Where an item becomes complete nothing is left open, so a reader of one item may stop there.
use Rattle.std.specs.Prelude.{◌≡◌, ◌/◌, ◌%◌, ◌∷◌, ◌++◌}
use Rattle.cborn_wire.proofs.Common.{refl, ap, ◌∙◌, ℕ, suc, List, [], length, Bool, true, false, cond, ltb, leb, Option, Some, None, Width, Direct, One, Major, Unsigned, Negative, ByteString, TextString, Array, Map, Tag, Other, Argument, Given, EndlessArgument, Opening, an_array, a_map, built, string_tree, Tree, Trees, no_item, more, WireReason, StringKind, OfBytes, OfText, OpenContainer, opened, slot_in, needs_item, Info, Now, Next, Reserved, EndlessInformation, info_at, major_at, size_in, count_in, append_trees, snoc, width_bytes, number, Goal, argument_of, content_of, nothing, gathering, State, Live, Failed, is_full, finished, holding, ended, gather, begin_head, after_head, unless, step, run, inl, inr, content_at, AtMostOneMore, Unfinished, UnexpectedBreak, BadSimple, ReservedInfo}

-- Two states of items that were whole before, and what the machine makes of both: what holds of them while those stay, where it fails, and where one more is whole, holds of the states that follow.
module _ (R : State → State → Type 0) (old new : Trees) (stay : (fed : ℕ) (os : List OpenContainer) (q : Unfinished) → R (Live fed old os q) (Live fed new os q))
    (fail : (p : ℕ) (r : WireReason) → R (Failed old p r) (Failed new p r)) (more : (fed : ℕ) (t : Tree) → R (Live fed (snoc old t) [] nothing) (Live fed (snoc new t) [] nothing)) where
  either : (c : Bool) (s u s' u' : State) → R s s' → R u u' → R (cond c s u) (cond c s' u')
  either true s u s' u' h k = h
  either false s u s' u' h k = k

  both_finished : (os : List OpenContainer) (fed : ℕ) (t : Tree) → R (finished fed old os t) (finished fed new os t)
  both_finished [] fed t = more fed t
  both_finished (opened o ts ∷ os) fed t = either (is_full o (length (ts ++ t ∷ []))) _ _ _ _ (both_finished os fed (built o (ts ++ t ∷ []))) (stay fed _ nothing)

  both_ended : (os : List OpenContainer) (fed p : ℕ) → R (ended fed p old os) (ended fed p new os)
  both_ended [] fed p = fail p UnexpectedBreak
  both_ended (opened o ts ∷ os) fed p = either (needs_item (slot_in (opened o ts))) _ _ _ _ (fail p UnexpectedBreak) (both_finished os fed (built o ts))

  both_opened : (os : List OpenContainer) (fed : ℕ) (o : Opening) → R (holding fed old os o []) (holding fed new os o [])
  both_opened os fed o = either (is_full o 0) _ _ _ _ (both_finished os fed (built o [])) (stay fed _ nothing)

  both_content : (os : List OpenContainer) (fed p : ℕ) (k : StringKind) (w : Width) (n : ℕ) (got : List ℕ) → R (content_at fed p old os k w n got) (content_at fed p new os k w n got)
  both_content os fed p k w n got = either (leb n (length got)) _ _ _ _ (both_finished os fed (string_tree p k w got)) (stay fed os _)

  both_head : (m : Major) (a : Argument) (os : List OpenContainer) (fed p : ℕ) → R (after_head fed p old os m a) (after_head fed p new os m a)
  both_head Unsigned (Given w n) os fed p = both_finished os fed _
  both_head Negative (Given w n) os fed p = both_finished os fed _
  both_head ByteString (Given w n) os fed p = both_content os fed p OfBytes w n []
  both_head TextString (Given w n) os fed p = both_content os fed p OfText w n []
  both_head Array a os fed p = both_opened os fed (an_array p (size_in a) (count_in a))
  both_head Map a os fed p = both_opened os fed (a_map p (size_in a) (count_in a))
  both_head Other (Given Direct n) os fed p = both_finished os fed _
  both_head Other (Given One n) os fed p = either (ltb n 32) _ _ _ _ (fail p BadSimple) (both_finished os fed _)
  both_head Other EndlessArgument os fed p = both_ended os fed p
  both_head Tag (Given w n) os fed p = stay fed _ nothing
  both_head ByteString EndlessArgument os fed p = stay fed _ nothing
  both_head TextString EndlessArgument os fed p = stay fed _ nothing
  both_head m a os fed p = fail p _

  both_gather : (g : Goal) (os : List OpenContainer) (fed p n : ℕ) (got : List ℕ) → R (gather fed p old os g n got) (gather fed p new os g n got)
  both_gather (argument_of m w) os fed p n got = either (leb n (length got)) _ _ _ _ (both_head m (Given w (number w got)) os fed p) (stay fed os _)
  both_gather (content_of k w) os fed p n got = both_content os fed p k w n got

  both_begin : (i : Info) (m : Major) (os : List OpenContainer) (fed : ℕ) → R (begin_head fed old os m i) (begin_head fed new os m i)
  both_begin (Now n) m os fed = both_head m (Given Direct n) os (suc fed) fed
  both_begin (Next w) m os fed = both_gather (argument_of m w) os (suc fed) fed (width_bytes w) []
  both_begin EndlessInformation m os fed = both_head m EndlessArgument os (suc fed) fed
  both_begin Reserved m os fed = fail fed ReservedInfo

  both_unless : (o : Option WireReason) (p : ℕ) (s u : State) → R s u → R (unless o old p s) (unless o new p u)
  both_unless None p s u h = h
  both_unless (Some r) p s u h = fail p r

  both_step : (q : Unfinished) (os : List OpenContainer) (fed limit b : ℕ) → R (step limit (Live fed old os q) b) (step limit (Live fed new os q) b)
  both_step nothing os fed limit b = both_unless _ fed _ _ (both_begin (info_at (b % 32)) (major_at (b / 32)) os fed)
  both_step (gathering p g n got) os fed limit b = both_gather g os (suc fed) p n (got ++ b ∷ [])

module _ (ready : Trees) where
  pub one_more_finished : (os : List OpenContainer) (fed : ℕ) (t : Tree) → AtMostOneMore ready (finished fed ready os t)
  one_more_finished = both_finished (λ s _. AtMostOneMore ready s) ready ready (λ _ _ _. inl refl) (λ _ _. inl refl) (λ fed t. inr (fed, t, refl))

  pub one_more_head : (m : Major) (a : Argument) (os : List OpenContainer) (fed p : ℕ) → AtMostOneMore ready (after_head fed p ready os m a)
  one_more_head = both_head (λ s _. AtMostOneMore ready s) ready ready (λ _ _ _. inl refl) (λ _ _. inl refl) (λ fed t. inr (fed, t, refl))

abbrev pub with_front : Trees → State → State
with_front front (Live fed ready os partial) = Live fed (append_trees front ready) os partial
with_front front (Failed ready p r) = Failed (append_trees front ready) p r

snoc-append : (front ts : Trees) (t : Tree) → snoc (append_trees front ts) t ≡ append_trees front (snoc ts t)
snoc-append no_item ts t = refl
snoc-append (more u front) ts t = ap (more u) (snoc-append front ts t)

module _ (front : Trees) where
  front_step : (limit : ℕ) (s : State) (b : ℕ) → step limit (with_front front s) b ≡ with_front front (step limit s b)
  front_step limit (Failed ready p r) b = refl
  front_step limit (Live fed ready os q) b =
      both_step (λ s u. s ≡ with_front front u) (append_trees front ready) ready (λ _ _ _. refl) (λ _ _. refl) (λ fed t. ap (λ l. Live fed l [] nothing) (snoc-append front ready t)) q os fed limit b

  pub front_run : (limit : ℕ) (x : List ℕ) (s : State) → run limit (with_front front s) x ≡ with_front front (run limit s x)
  front_run limit [] s = refl
  front_run limit (b ∷ x) s = ap (λ u. run limit u x) (front_step limit s b) ∙ front_run limit x (step limit s b)
