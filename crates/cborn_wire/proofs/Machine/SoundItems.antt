-- What the machine has is what was read.
use Rattle.std.specs.Prelude.{◌≡◌, ◌+◌, ◌<◌, ◌≤◌, ◌∷◌, ◌++◌}
use Rattle.cborn_wire.proofs.Common.{sym, ap, ◌∙◌, subst, ℕ, List, [], length, true, false, leb, Some, None, arith, append_assoc, append-nil, length-append, add-zero, max, cond_both, AreBytes, Given, WidthFits, Opening, built, Goes, Ends, Tree, Trees, no_item, more, trees, depth, depth_all, spelled, spelled_all, Fits, FitsAll, Placed, PlacedAll, WireReason, major_of, OpenContainer, opened, opening, beginnings, slot, added_depth, open_depth, HeadFits, IsNoString, Next, is_bad_chunk, head_reason, front_reason, info_for, IsPlacedOpen, Ground, front, partial_bytes, snoc, width_bytes, argument_of, content_of, Unfinished, nothing, gathering, State, Live, Failed, is_full, finished, holding, common_steps, nat_tests}
use Rattle.cborn_wire.proofs.Spelled.TreeLists.{trees-push}
use Rattle.cborn_wire.proofs.Machine.Containers.{Belongs, closing, full_closing, goes_on, goes_whole, built_spelled, built_fits, built_deep, built_placed}

-- One more at the end.

spelled_all-snoc : (ts : Trees) (t : Tree) → spelled_all (snoc ts t) ≡ spelled_all ts ++ spelled t
spelled_all-snoc no_item t = append-nil (spelled t)
spelled_all-snoc (more u ts) t = ap (λ l. spelled u ++ l) (spelled_all-snoc ts t) ∙ sym (append_assoc (spelled u) (spelled_all ts) (spelled t))

fits-snoc : (ts : Trees) (t : Tree) → FitsAll ts → Fits t → FitsAll (snoc ts t)
fits-snoc no_item t h k = (k, tt)
fits-snoc (more u ts) t h k = (h.0, fits-snoc ts t h.1 k)

depth-snoc : (ts : Trees) (t : Tree) → depth_all (snoc ts t) ≡ max (depth_all ts) (depth t)
depth-snoc no_item t = omega arith
depth-snoc (more u ts) t = omega (arith, depth-snoc ts t)

pub placed-snoc : (ts : Trees) (t : Tree) (p : ℕ) → PlacedAll p ts → Placed (p + length (spelled_all ts)) t → PlacedAll p (snoc ts t)
placed-snoc no_item t p h k = (subst (λ q. Placed q t) (add-zero p) k, tt)
placed-snoc (more u ts) t p h k =
    let total : p + length (spelled u ++ spelled_all ts) ≡ p + length (spelled u) + length (spelled_all ts) = omega (arith, length-append (spelled u) (spelled_all ts)) in
    (h.0, placed-snoc ts t _ h.1 (subst (λ q. Placed q t) total k))

-- t may be next.
abbrev pub Accepts : List OpenContainer → Tree → Type 0
Accepts [] t = Unit {0}
Accepts (opened o ts ∷ os) t = Belongs o t

pub accepted : (os : List OpenContainer) (t : Tree) → IsNoString os → Accepts os t
accepted os t h = grind (arith, common_steps, nat_tests)

-- A partial head or string is what the bytes so far make of one that is allowed here.
abbrev pub PartialFits : ℕ → List OpenContainer → ℕ → Unfinished → Type 0
PartialFits limit os at nothing = Unit {0}
PartialFits limit os at (gathering p (argument_of m w) n got) = (p ≡ at) × (n ≡ width_bytes w) × (length got < n) × (head_reason (slot os) (leb limit (open_depth os)) m (Next w) [] ≡ None) × AreBytes got
PartialFits limit os at (gathering p (content_of k w) n got) = (p ≡ at) × WidthFits w n × (length got < n) × (is_bad_chunk (slot os) (major_of k) (info_for (Given w n)) ≡ false) × AreBytes got

module _ (limit base : ℕ) where
  pub record SoundLive (x : List ℕ) (fed : ℕ) (ready : Trees) (os : List OpenContainer) (partial : Unfinished) : Type 0 where
    pub ground : Ground limit base ready os
    pub bytes : x ≡ front ready os ++ partial_bytes partial
    pub fed_is : fed ≡ base + length x
    pub partial_fits : PartialFits limit os (base + length (front ready os)) partial

  pub record SoundFailed (x : List ℕ) (ready : Trees) (p : ℕ) (r : WireReason) : Type 0 where
    pub before : List ℕ
    pub after : List ℕ
    pub os : List OpenContainer
    pub whole : x ≡ before ++ after
    pub live : SoundLive before p ready os nothing
    pub refused : front_reason limit (slot os) (open_depth os) after ≡ Some r

  abbrev pub Sound : List ℕ → State → Type 0
  Sound x (Live fed ready os partial) = SoundLive x fed ready os partial
  Sound x (Failed ready p r) = SoundFailed x ready p r

  pub length_front : (ready : Trees) (os : List OpenContainer) → base + length (front ready os) ≡ base + length (spelled_all ready) + length (beginnings os)
  length_front ready os = omega (arith, length-append (spelled_all ready) (beginnings os))

  -- one less is open
  pub ground_less : (ready : Trees) (os : List OpenContainer) (o : OpenContainer) → Ground limit base ready (o ∷ os) → Ground limit base ready os
  ground_less ready os o g = record { fit = g.fit; shallow = g.shallow; placed = g.placed; are_open = g.are_open.2; open_placed = g.open_placed.1 }

  pub top_placed : (ready : Trees) (os : List OpenContainer) (o : OpenContainer) → Ground limit base ready (o ∷ os) → IsPlacedOpen (base + length (front ready os)) o
  top_placed ready os o g = subst (λ q. IsPlacedOpen q o) (sym (length_front ready os)) g.open_placed.0

  -- the machine has a complete t after what is open
  pub record Whole (x : List ℕ) (fed : ℕ) (ready : Trees) (os : List OpenContainer) (t : Tree) : Type 0 where
    pub ground : Ground limit base ready os
    pub accepts : Accepts os t
    pub fits : Fits t
    pub shallow : open_depth os + depth t ≤ limit
    pub placed : Placed (base + length (front ready os)) t
    pub bytes : x ≡ front ready os ++ spelled t
    pub fed_is : fed ≡ base + length x

  pub nothing_more : (x y : List ℕ) → x ≡ y → x ≡ y ++ []
  nothing_more x y e = e ∙ sym (append-nil y)

  -- a container with these nodes, which ends or goes on
  module _ (ready : Trees) (os : List OpenContainer) (o : Opening) (ts : List Tree) (g : Ground limit base ready os) (free : IsNoString os) (fits : HeadFits o) (all : FitsAll (trees ts))
      (deep : added_depth o + open_depth os + depth_all (trees ts) ≤ limit) (placed : IsPlacedOpen (base + length (front ready os)) (opened o ts)) (fed : ℕ) (x : List ℕ) (at : fed ≡ base + length x) where
    pub ends : Ends o ts → x ≡ front ready os ++ (opening o ++ spelled_all (trees ts) ++ closing o) → Whole x fed ready os (built o ts)
    ends h bytes = grind (arith, accepted, built_fits, built_deep, built_placed, built_spelled)

    pub sound_holding : ((t : Tree) → Whole x fed ready os t → Sound x (finished fed ready os t)) → (is_full o (length ts) ≡ false → Goes o ts) → (is_full o (length ts) ≡ true → Ends o ts)
        → x ≡ front ready os ++ (opening o ++ spelled_all (trees ts)) → Sound x (holding fed ready os o ts)
    sound_holding next goes end bytes =
        let start = opening o ++ spelled_all (trees ts) in
        cond_both (is_full o (length ts)) _ _ (Sound x)
        (λ e. next (built o ts) (ends (end e) (bytes ∙ ap (λ l. front ready os ++ l) (sym (append-nil start) ∙ ap (λ l. start ++ l) (sym (full_closing o (length ts) e))))))
        (λ e. record {
          ground = record { fit = g.fit; shallow = g.shallow; placed = g.placed; are_open = ((fits, goes e, all, deep), free, g.are_open); open_placed = (subst (λ q. IsPlacedOpen q (opened o ts)) (length_front ready os) placed, g.open_placed) };
          bytes = nothing_more _ _ (bytes ∙ append_assoc (spelled_all ready) (beginnings os) _);
          fed_is = at;
          partial_fits = tt;
        })

  pub sound_finished : (os : List OpenContainer) (ready : Trees) (t : Tree) (fed : ℕ) (x : List ℕ) → Whole x fed ready os t → Sound x (finished fed ready os t)
  sound_finished [] ready t fed x h = grind (arith, common_steps, nat_tests, fits-snoc, depth-snoc, placed-snoc, append-nil, nothing_more, spelled_all-snoc)
  sound_finished (opened o ts ∷ os) ready t fed x h =
      let top = top_placed ready os (opened o ts) h.ground in
      let may = h.ground.are_open.0 in
      let same = trees-push ts t in
      let here : base + length (front ready (opened o ts ∷ os)) ≡ base + length (front ready os) + length (opening o) + length (spelled_all (trees ts))
      = omega (arith, length_front ready os, length_front ready (opened o ts ∷ os), length-append (beginnings os) (opening o ++ spelled_all (trees ts)), length-append (opening o) (spelled_all (trees ts))) in
      let cut : front ready (opened o ts ∷ os) ++ spelled t ≡ front ready os ++ (opening o ++ (spelled_all (trees ts) ++ spelled t)) = simp append_assoc in
      sound_holding ready os o (ts ++ t ∷ []) (ground_less ready os (opened o ts) h.ground) h.ground.are_open.1 may.0 (subst FitsAll (sym same) (fits-snoc (trees ts) t may.2 h.fits))
      (omega (arith, ap depth_all same, depth-snoc (trees ts) t, may.3, h.shallow)) (top.0, subst (PlacedAll _) (sym same) (placed-snoc (trees ts) t _ top.1 (subst (λ k. Placed k t) here h.placed))) fed x h.fed_is
      (λ u. sound_finished os ready u fed x) (goes_on o ts t may.1 h.accepts) (goes_whole o ts t may.1)
      (h.bytes ∙ cut ∙ ap (λ l. front ready os ++ (opening o ++ l)) (sym (ap spelled_all same ∙ spelled_all-snoc (trees ts) t)))
