-- What a reader of items takes of a piece, item by item, as steps of the machine.
use Rattle.std.specs.Prelude.{◌≡◌, ◌∷◌, ◌++◌}
use Rattle.cborn_wire.proofs.Common.{refl, sym, ap, ◌∙◌, subst, ℕ, List, [], Option, Err, inl, inr, arith, Tree, no_item, more, trees, IsSpelled, top, Part, no_part, put, whole, VisitFault, Refused, Memory, input_level, Level, PartialHead, HeadReader, Nodes, ItemReader, nothing, State, Live, Failed, ready_in, start, run, AtMostOneMore, ready, open_in, IsFresh, IsInput, Missing, Stands, HereAt, MayEnd, IsFed, FailsAs, seen_string, seen_nodes, IsHeld, pending, seen, IsMade, take, length-append, option_to_list, length-take-le, Stops, Took, IsMoved, common_steps, nat_tests}
use Rattle.cborn_wire.specs.declared.levels.GrownLevels.{GrownLevels}
use Rattle.cborn_wire.specs.shared.Visiting as visiting
use Rattle.cborn_wire.specs.shared.Visiting.{levels as levels_of}
use Rattle.cborn_wire.proofs.Machine.Running.{run-append}
use Rattle.cborn_wire.proofs.Machine.SoundRuns.{reached_item}
use Rattle.cborn_wire.proofs.Visiting.Pieces.{may_end_here}
use Rattle.cborn_wire.proofs.Visiting.Ending.{fresh_fed}
use Rattle.cborn_wire.specs.Visits.{wire_fault}
use Rattle.cborn_wire.proofs.Machine.TakesItems.{append_trees-nil}
use Rattle.cborn_wire.proofs.Machine.WholeFront.{with_front, front_run}
use Rattle.cborn_wire.proofs.Spelled.TreeLists.{trees-append}

-- what the visitor holds is what it is seen as
pub here_seen : (n : Nodes) (around : List Level) (l : Level) (left at : ℕ) (h : Option PartialHead) (s : State) → HereAt (IsHeld n) around l left at h s
    → s ≡ Live at (ready (seen_nodes n)) (open_in (seen_nodes n)) (pending h n.string)
here_seen n around l left at h s e = grind (arith, common_steps, nat_tests)

-- A reader that is at the offset `at`, and nothing is open.
pub fresh_made : (r : ItemReader) (limit at : ℕ) → IsFresh limit at r.heads → IsInput r.levels.outer.items r.levels.inner → IsHeld r.nodes (top []) no_part → IsMade r × (seen [] r ≡ start at)
fresh_made r limit at fresh input held =
    let fed = fresh_fed (IsHeld r.nodes) r.levels.outer.items r.levels.inner limit at r.heads held input fresh in
    let same : seen [] r ≡ start at
    = ap (λ f. Live r.heads.at (ready f) (open_in (seen_nodes r.nodes)) (pending r.heads.head r.nodes.string)) held.0 ∙ sym (here_seen r.nodes r.levels.outer.items r.levels.inner r.heads.left r.heads.at r.heads.head (start at) fed.2) in
    (record { base = at; read = []; fed = fed; is = sym same }, same)

-- The input may end exactly if nothing is open, and no head or string is partial.
module _ (r : ItemReader) (made : IsMade r) where
  pub may_end : open_in (seen_nodes r.nodes) ≡ [] → pending r.heads.head r.nodes.string ≡ nothing → MayEnd r.levels.outer.items r.heads
  may_end none still = grind (arith, common_steps, nat_tests)

  pub none_open : MayEnd r.levels.outer.items r.heads → (open_in (seen_nodes r.nodes) ≡ []) × (pending r.heads.head r.nodes.string ≡ nothing)
  none_open (head, left, outer) = grind (arith, common_steps, nat_tests)

-- Reading fails as the machine does.
pub fails_item : (old : ItemReader) (made : IsMade old) (piece : List ℕ) (e : VisitFault) → visiting.ReadsItem old.heads.limit made.base made.read piece (Err e) → FailsAs no_item (run old.heads.limit (seen [] old) piece) e
fails_item old made piece e h = grind (arith, run-append)

-- After these bytes heads, levels and nodes are what they are here.
module _ (old : ItemReader) (made : IsMade old) (heads : HeadReader) (levels : GrownLevels) (nodes : Nodes) (y : List ℕ) (same : heads.limit ≡ old.heads.limit)
    (fed : IsFed (IsHeld nodes) levels.outer.items levels.inner heads made.base (made.read ++ y)) where
  abbrev now : State
  now = run heads.limit (start made.base) (made.read ++ y)

  is_now : now ≡ Live heads.at (ready (seen_nodes nodes)) (open_in (seen_nodes nodes)) (pending heads.head nodes.string)
  is_now = here_seen nodes levels.outer.items levels.inner heads.left heads.at heads.head now fed.2

  comes : run old.heads.limit (seen [] old) y ≡ now
  comes = ap (λ u. run old.heads.limit u y) (sym made.is) ∙ sym (run-append old.heads.limit (start made.base) made.read y) ∙ ap (λ k. run k (start made.base) (made.read ++ y)) (sym same)

  one_more : AtMostOneMore (ready_in (run old.heads.limit (start made.base) made.read)) (run old.heads.limit (start made.base) (made.read ++ y)) → AtMostOneMore no_item now
  one_more h = grind (arith, common_steps, nat_tests)

  pub no_item_whole : (next : Nodes) → seen_nodes next ≡ seen_nodes nodes → next.string ≡ nodes.string → ((ts : List Tree) → seen_nodes nodes ≡ top ts → ts ≡ [])
      → AtMostOneMore (ready_in (run old.heads.limit (start made.base) made.read)) (run old.heads.limit (start made.base) (made.read ++ y))
      → let r : ItemReader = record { heads = heads; levels = levels; nodes = next } in IsMade r × (run old.heads.limit (seen [] old) y ≡ seen [] r)
  no_item_whole next is string none at_most = grind (arith, comes, is_now, one_more, common_steps, nat_tests)

  -- one item is whole, the node t
  module _ (t : Tree) (next : Nodes) (is : seen_nodes nodes ≡ put (seen_nodes next) t) (bare : seen_nodes next ≡ top (whole (seen_nodes next))) where
    abbrev these : List Tree
    these = whole (seen_nodes next)

    is_top : seen_nodes nodes ≡ top (these ++ t ∷ [])
    is_top = is ∙ ap (λ f. put f t) bare

    -- nothing is open, and no other item is whole
    single : AtMostOneMore no_item now → (these ≡ []) × (now ≡ Live heads.at (more t no_item) [] nothing)
    single (inl e) = absurd (clash these (ap ready (sym is_top) ∙ ap ready_in (sym is_now) ∙ e))
      where
        clash : (us : List Tree) → trees (us ++ t ∷ []) ≡ no_item → ⊥
        clash [] e = cc
        clash (u ∷ us) e = cc
    single (inr (at, u, e)) =
        let here : now ≡ Live heads.at (trees (these ++ t ∷ [])) [] (pending heads.head nodes.string) = is_now ∙ ap (λ f. Live heads.at (ready f) (open_in f) (pending heads.head nodes.string)) is_top in
        let both = sym here ∙ e in
        let none = alone these (cc both) in
        (none, here ∙ ap (λ us. Live heads.at (trees (us ++ t ∷ [])) [] (pending heads.head nodes.string)) none ∙ ap (Live heads.at (more t no_item) []) (cc both))
      where
        alone : (us : List Tree) → trees (us ++ t ∷ []) ≡ more u no_item → us ≡ []
        alone [] e = refl
        alone (v ∷ []) e = cc
        alone (v ∷ w ∷ us) e = cc

    pub item_whole : (counted : GrownLevels) → next.string ≡ nodes.string → counted.outer.items ≡ levels.outer.items → counted.inner ≡ input_level 0
        → AtMostOneMore (ready_in (run old.heads.limit (start made.base) made.read)) (run old.heads.limit (start made.base) (made.read ++ y))
        → let r : ItemReader = record { heads = heads; levels = counted; nodes = next } in IsMade r × (run old.heads.limit (seen [] old) y ≡ seen (t ∷ []) r) × (seen [] r ≡ start heads.at) × IsSpelled t
    item_whole counted string outer inner at_most =
        let r : ItemReader = record { heads = heads; levels = counted; nodes = next } in
        let (none, is_one) = single (one_more at_most) in
        let (head, left, around) = may_end_here (IsHeld nodes) levels.outer.items levels.inner heads now heads.at (more t no_item) fed.2 is_one in
        let here : Stands (IsHeld nodes) levels.outer.items levels.inner heads.left heads.at now = subst (λ h. HereAt (IsHeld nodes) levels.outer.items levels.inner heads.left heads.at h now) head fed.2 in
        let no_string : no_part ≡ seen_string next.string = sym (part_none heads.left here.amid here.missing left) ∙ here.held.1 ∙ ap seen_string (sym string) in
        let input : IsInput counted.outer.items counted.inner = (outer ∙ around, inner) in
        let bare_next : top [] ≡ seen_nodes next = sym (bare ∙ ap top none) in
        let (made_next, fresh) = fresh_made r heads.limit heads.at (refl, refl, left, head, fed.1) input (bare_next, no_string) in
        let one : now ≡ seen (t ∷ []) r = is_one ∙ ap with_one (sym fresh) in
        let (fits, shallow) = reached_item heads.limit made.base heads.at no_item t [] nothing (made.read ++ y, fed.0, is_one) in
        (made_next, comes ∙ one, fresh, (fits, omega (arith, shallow, fed.1)))
      where
        with_one : State → State
        with_one (Live at ts os q) = Live at (more t ts) os q
        with_one (Failed ts p r) = Failed ts p r

        part_none : (n : ℕ) (c : Part) → Missing n c → n ≡ 0 → c ≡ no_part
        part_none n c h e = grind (arith, common_steps, nat_tests)

-- What is read doesn't depend on the items that were whole before.
module _ (r : ItemReader) (items : List Tree) (x : List ℕ) where
  from_none : run r.heads.limit (seen items r) x ≡ with_front (trees items) (run r.heads.limit (seen [] r) x)
  from_none =
      ap (λ ts. run r.heads.limit (Live r.heads.at ts (open_in (seen_nodes r.nodes)) (pending r.heads.head r.nodes.string)) x) (sym (append_trees-nil (trees items)))
      ∙ front_run (trees items) r.heads.limit x (seen [] r)

  fails_after : (e : VisitFault) → FailsAs no_item (run r.heads.limit (seen [] r) x) e → FailsAs (trees items) (run r.heads.limit (seen items r) x) e
  fails_after e h = grind (arith, append_trees-nil, from_none, with_front)

-- The front y of the piece was read, and the rest is to come.
module _ (old : ItemReader) (before : List Tree) (now : ItemReader) (items : List Tree) (piece y rest : List ℕ) (cut : piece ≡ y ++ rest) (m : IsMoved old before now items y) where
  pub then_stops : (e : VisitFault) → FailsAs no_item (run now.heads.limit (seen [] now) rest) e → Stops old.heads.limit (seen before old) piece (wire_fault e) (trees items)
  then_stops (Refused p r) h =
      ap (run old.heads.limit (seen before old)) cut ∙ run-append old.heads.limit (seen before old) y rest ∙ ap (λ u. run old.heads.limit u rest) m.goes
      ∙ ap (λ k. run k (seen items now) rest) (sym m.limit) ∙ fails_after now items rest (Refused p r) h
  then_stops (Memory e) h = (y, rest, cut, ap ready_in m.goes)

  pub then_moved : (next : ItemReader) (n : ℕ) (item : Option Tree) (left : List Tree) → Took rest now next n item → next.heads.limit ≡ now.heads.limit → left ≡ items ++ option_to_list item
      → IsMoved old before next left (y ++ take n rest)
  then_moved next n item left t limit added = grind (arith, length-append, length-take-le, run-append, from_none, trees-append, with_front)
