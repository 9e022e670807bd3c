-- A device of the proofs: what a follower of heads knows of a partial sequence, as long as nothing departed. What it knows of a node is that it is its own encoding, if it stands in the input where its place is. No public contract cites it.
use Rattle.std.specs.Prelude.{◌≡◌, ◌≢◌, ℕ, ◌⊎◌, List, [], ◌∷◌, ◌++◌, ◌+◌, length, map, take, slice_index_or, true, false, Bool, Option, None, Some, ⊤}
use Rattle.std.proofs.Common.{zero, suc}
use Rattle.std.specs.List.{AllByRecursion}
use Rattle.std.specs.declared.cmp.Ordering.{Ordering}
use Rattle.cborn_model.specs.Bytes.{AreBytes}
use Rattle.cborn_model.specs.Heads.{WidthFits, least}
use Rattle.cborn_model.specs.Meaning.{IsByteString}
use Rattle.cborn_model.specs.Partial.{Partial, top, inside, Opening, an_array, a_map, a_tag, in_chunks, Part, no_part, part, string_tree}
use Rattle.cborn_model.specs.Placed.{Placed}
use Rattle.cborn_model.specs.Spelled.{spelled}
use Rattle.cborn_model.specs.Tree.{Tree, place}
use Rattle.cborn_model.specs.declared.heads.Size.{Size}
use Rattle.cborn_model.specs.declared.heads.Size.TheVariants.{Fixed}
use Rattle.cborn_model.specs.declared.heads.Width.{Width}
use Rattle.cborn_model.specs.declared.visitors.StringKind.{StringKind}
use Rattle.cborn_model.specs.declared.visitors.StringKind.TheVariants.{OfBytes}
use Rattle.cborn_judge.specs.Defects.{IsLoose}
use Rattle.cborn_judge.specs.devices.Encoders.{IsContent}
use Rattle.cborn_judge.specs.devices.Encoding.{IsEncodedAs}
use Rattle.cborn_judge.specs.declared.followers.Follower.{Follower}
use Rattle.cborn_judge.specs.declared.open_maps.OpenMap.{OpenMap}
use Rattle.cborn_judge.specs.devices.Rising.{Begins, IsRisingMap, TakesPair, fresh}

-- the head of a container says how many items or pairs there are, and is the shortest
abbrev pub IsCounted : Size → Option ℕ → Type 0
IsCounted s c = (n : ℕ) × (s ≡ Fixed (least n)) × (c ≡ Some n)

-- where the head of a container is
abbrev pub opening_place : Opening → ℕ
opening_place (an_array p s c) = p
opening_place (a_map p s c) = p
opening_place (a_tag p w n) = p
opening_place (in_chunks p k) = p

-- its head is the shortest
abbrev pub IsShort : Opening → Type 0
IsShort (an_array p s c) = (n : ℕ) × (s ≡ Fixed (least n)) × (c ≡ Some n) × WidthFits (least n) n
IsShort (a_map p s c) = (n : ℕ) × (s ≡ Fixed (least n)) × (c ≡ Some n) × WidthFits (least n) n
IsShort (a_tag p w n) = (w ≡ least n) × WidthFits (least n) n
IsShort (in_chunks p k) = ⊥

-- the bytes of a bignum don't come next
abbrev pub IsPlace : Partial → Type 0
IsPlace (inside f (a_tag p w n) ts) = (n ≢ 2) × (n ≢ 3)
IsPlace f = ⊤

-- whether the tag n is that of a bignum
abbrev pub IsBignumTag : ℕ → Bool → Type 0
IsBignumTag n m = (((n ≡ 2) ⊎ (n ≡ 3)) × (m ≡ true)) ⊎ ((n ≢ 2) × (n ≢ 3) × (m ≡ false))

-- whether the bytes of a bignum come next
abbrev pub IsDue : Bool → Partial → Type 0
IsDue m (inside f (a_tag p w n) []) = IsBignumTag n m
IsDue m f = m ≡ false

-- the innermost container was left, so that these are open after it: maps, the innermost, arrays and tags in that
abbrev pub Leaves : List OpenMap → OpenMap → ℕ → List OpenMap → OpenMap → ℕ → Type 0
Leaves fs a zero gs g m = (m ≡ a.around) × (fs ≡ gs ++ g ∷ [])
Leaves fs a (suc n) gs g m = (m ≡ n) × (gs ≡ fs) × (g ≡ a)

module _ (order : List ℕ → List ℕ → Ordering) (x : List ℕ) where
  -- ---- nodes

  -- the node stands in x where its place is
  pub record StandsAt (t : Tree) : Type 0 where
    pub front : List ℕ
    pub rest : List ℕ
    pub is : x ≡ front ++ spelled t ++ rest
    pub placed : Placed (length front) t
    pub bytes : AreBytes x

  abbrev pub IsOwn : Tree → Type 0
  IsOwn t = StandsAt t → IsEncodedAs order t (spelled t)

  -- the bytes of a bignum that isn't loose
  abbrev pub IsTight : Tree → Type 0
  IsTight t = StandsAt t → (b : List ℕ) × IsByteString t b × (IsLoose b → ⊥)

  -- what holds of a node in this container
  abbrev pub IsIn : Opening → Tree → Type 0
  IsIn (a_tag p w n) t = IsOwn t × ((n ≡ 2) ⊎ (n ≡ 3) → IsTight t)
  IsIn o t = IsOwn t

  abbrev pub IsNext : Partial → Tree → Type 0
  IsNext (top ts) = IsOwn
  IsNext (inside f o ts) = IsIn o

  -- ---- what is open: the maps around the innermost, the outermost first; the innermost; how many arrays and tags are open in it

  -- an item began at p, a key or a value if it is in no array and no tag
  abbrev pub BeginsIn : ℕ → OpenMap → ℕ → OpenMap → Type 0
  BeginsIn zero a p b = Begins order x a p b
  BeginsIn (suc n) a p b = b ≡ a

  -- what is known of a container in which items began at ps, where K says what is known around it
  abbrev pub IsLevel : List OpenMap → OpenMap → ℕ → Opening → List ℕ → (List OpenMap → OpenMap → ℕ → Type 0) → Type 0
  IsLevel fs a n (an_array p s c) ps K = (m : ℕ) × (n ≡ suc m) × K fs a m
  IsLevel fs a n (a_tag p w t) ps K = (m : ℕ) × (n ≡ suc m) × K fs a m
  IsLevel fs a n (a_map p s c) ps K = (n ≡ 0) × IsRisingMap order x a None ps × ((bs : List OpenMap) × (b : OpenMap) × (fs ≡ bs ++ b ∷ []) × K bs b a.around)
  IsLevel fs a n (in_chunks p k) ps K = ⊥

  -- and an item began at ps in the innermost
  abbrev pub Knows : List OpenMap → OpenMap → ℕ → Partial → List ℕ → Type 0
  Knows fs a n (top ts) ps = (n ≡ 1) × AllByRecursion IsOwn ts
  Knows fs a n (inside f o ts) ps = IsShort o × AllByRecursion (IsIn o) ts × IsPlace f × IsLevel fs a n o (map place ts ++ ps) (λ bs b m. Knows bs b m f (opening_place o ∷ []))

  abbrev pub Follows : List OpenMap → OpenMap → ℕ → Bool → Partial → Part → Type 0
  Follows fs a n m f no_part = Knows fs a n f [] × IsDue m f
  Follows fs a n m f (part p k w l y) = Knows fs a n f (p ∷ []) × (m ≡ false) × ((b : List ℕ) → length b ≡ l → IsNext f (string_tree p k w b))

module _ {O I : Type 0} {most : ℕ} where
  abbrev pub outer : Follower O I most → List OpenMap
  outer v = take v.maps.around v.maps.maps

  abbrev pub inner : Follower O I most → OpenMap
  inner v = slice_index_or v.maps.maps v.maps.around (fresh 0)

  -- nothing departed before
  abbrev pub IsKept : Follower O I most → Follower O I most → Type 0
  IsKept v k = (v.departed ≡ false) × (k.bytes ≡ v.bytes)

  -- what is known as long as nothing departed
  abbrev pub IsHeld : (List ℕ → List ℕ → Ordering) → List ℕ → Follower O I most → Partial → Part → Type 0
  IsHeld order x v f c = v.departed ≡ false → (v.bytes.now ≡ x) × Follows order x (outer v) (inner v) v.inside v.magnitude f c

  -- an item began at p that is sound
  abbrev pub Began : (List ℕ → List ℕ → Ordering) → Follower O I most → Follower O I most → ℕ → Bool → Type 0
  Began order v k p sound =
      k.departed ≡ false → IsKept v k × (sound ≡ true) × (v.magnitude ≡ false) × (k.magnitude ≡ false) × (k.inside ≡ v.inside) × (outer k ≡ outer v) × BeginsIn order v.bytes.now v.inside (inner v) p (inner k)

  -- and so did an array or a tag with a sound head
  abbrev pub Entered : (List ℕ → List ℕ → Ordering) → Follower O I most → Follower O I most → ℕ → Bool → Bool → Type 0
  Entered order v k p sound m =
      k.departed ≡ false → IsKept v k × (sound ≡ true) × (v.magnitude ≡ false) × (k.magnitude ≡ m) × (k.inside ≡ suc v.inside) × (outer k ≡ outer v) × BeginsIn order v.bytes.now v.inside (inner v) p (inner k)

  -- and so did a map
  abbrev pub MapEntered : (List ℕ → List ℕ → Ordering) → Follower O I most → Follower O I most → ℕ → Bool → Type 0
  MapEntered order v k p sound =
      k.departed ≡ false → IsKept v k × (sound ≡ true) × (v.magnitude ≡ false) × (k.magnitude ≡ false) × (k.inside ≡ 0) × (inner k ≡ fresh v.inside)
      × ((a : OpenMap) × (outer k ≡ outer v ++ a ∷ []) × BeginsIn order v.bytes.now v.inside (inner v) p a)

  -- the innermost container was left
  abbrev pub IsLeft : Follower O I most → Follower O I most → Type 0
  IsLeft v k = k.departed ≡ false → IsKept v k × (k.magnitude ≡ v.magnitude) × Leaves (outer v) (inner v) v.inside (outer k) (inner k) k.inside

  -- a string with the content y, whose head is the shortest, began at p: bytes of a bignum, or another that means something
  abbrev pub StringBegan : (List ℕ → List ℕ → Ordering) → Follower O I most → Follower O I most → ℕ → StringKind → Width → List ℕ → Type 0
  StringBegan order v k p s w y =
      k.departed ≡ false → IsKept v k × (k.magnitude ≡ false) × (k.inside ≡ v.inside) × (outer k ≡ outer v) × (w ≡ least (length y))
      × (((v.magnitude ≡ true) × (s ≡ OfBytes) × (IsLoose y → ⊥) × (inner k ≡ inner v)) ⊎ ((v.magnitude ≡ false) × IsContent s y × BeginsIn order v.bytes.now v.inside (inner v) p (inner k)))

  -- a key of n bytes, which began at p, and its value were taken
  abbrev pub PairTaken : (List ℕ → List ℕ → Ordering) → Follower O I most → Follower O I most → ℕ → ℕ → Type 0
  PairTaken order v k p n = k.departed ≡ false → IsKept v k × (k.magnitude ≡ v.magnitude) × (k.inside ≡ v.inside) × (outer k ≡ outer v) × TakesPair order v.bytes.now (inner v) p (p + n) (inner k)
