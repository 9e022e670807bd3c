-- A device of the proofs: what is known of one open map, by the offsets where its keys and values begin. No public contract cites it.
use Rattle.std.specs.Prelude.{◌≡◌, ℕ, List, [], ◌∷◌, slice_index_or, slice_range, Bool, true, false, Option, None, Some, ⊤}
use Rattle.std.specs.declared.cmp.Ordering.{Ordering}
use Rattle.std.specs.declared.cmp.Ordering.TheVariants.{Less}
use Rattle.cborn_judge.specs.declared.open_maps.OpenMap.{OpenMap}
use Rattle.cborn_judge.specs.declared.open_maps.KeySpan.{KeySpan}

-- the last key of a map, in the input
abbrev pub key_before : List ℕ → Option KeySpan → Option (List ℕ)
key_before x None = None
key_before x (Some k) = Some (slice_range x k.start k.end)

-- a map in which nothing began, in one in which so many arrays and tags are open
abbrev pub fresh : ℕ → OpenMap
fresh n = record { around = n; at_value = false; key = 0; before = None }

-- the key is above the one before it, if there is one
abbrev pub RisesAbove : (List ℕ → List ℕ → Ordering) → Option (List ℕ) → List ℕ → Type 0
RisesAbove order None k = ⊤
RisesAbove order (Some j) k = order j k ≡ Less

-- the innermost of maps that are open, after n around it
abbrev pub innermost : ℕ → List OpenMap → OpenMap
innermost n ms = slice_index_or ms n (fresh 0)

module _ (order : List ℕ → List ℕ → Ordering) (x : List ℕ) where
  -- the key from p to q, which is above the one before it, was read
  abbrev pub EndsKey : OpenMap → ℕ → ℕ → OpenMap → Type 0
  EndsKey a p q b = RisesAbove order (key_before x a.before) (slice_range x p q) × (b.around ≡ a.around) × (b.at_value ≡ a.at_value) × (key_before x b.before ≡ Some (slice_range x p q))

  -- what it is once a key or a value begins at p
  abbrev pub BeginsAt : Bool → OpenMap → ℕ → OpenMap → Type 0
  BeginsAt false a p b = b ≡ record a { at_value = true; key = p }
  BeginsAt true a p b = EndsKey (record a { at_value = false }) a.key p b

  abbrev pub Begins : OpenMap → ℕ → OpenMap → Type 0
  Begins a = BeginsAt a.at_value a

  -- a key from p to q was taken, and the value after it
  abbrev pub TakesPair : OpenMap → ℕ → ℕ → OpenMap → Type 0
  TakesPair a p q b = (a.at_value ≡ false) × EndsKey a p q b

  -- a map whose keys rise, the first above the one before it
  abbrev pub IsRisingMap : OpenMap → Option (List ℕ) → List ℕ → Type 0
  IsRisingMap a before [] = (a.at_value ≡ false) × (key_before x a.before ≡ before)
  IsRisingMap a before (k ∷ []) = (a.at_value ≡ true) × (a.key ≡ k) × (key_before x a.before ≡ before)
  IsRisingMap a before (k ∷ v ∷ ps) = RisesAbove order before (slice_range x k v) × IsRisingMap a (Some (slice_range x k v)) ps
