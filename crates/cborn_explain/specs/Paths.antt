-- Paths: where a place in some bytes is among their items (RFC 8949 section 3, RFC 8742).
use Rattle.std.specs.Prelude.{◌≡◌, ℕ, ◌+◌, ◌≤◌, List, [], ◌∷◌, ◌++◌, length, take, Bool, true, false, Option, Some, None, if◌then◌else◌}
use Rattle.cborn_model.specs.Tree.{Tree, Trees, count, depth_all}
use Rattle.cborn_model.specs.Partial.{an_array, a_map, a_tag, in_chunks, paired, last_key}
use Rattle.cborn_model.specs.Spelled.{spelled_all, FitsAll}
use Rattle.cborn_wire.specs.Slots.{OpenContainer, opened, beginnings, AreOpen}
use Rattle.cborn_explain.specs.declared.paths.Step.{Step}
use Rattle.cborn_explain.specs.declared.paths.Step.TheVariants.{Item, Element, Key, Value, Content, Chunk}

-- in a map, after this many pairs, and the key whose value is missing
abbrev pub step_in_map : ℕ → Option Tree → Step
step_in_map n None = Key n
step_in_map n (Some k) = Value n

-- The step into an open container, to the part that comes next. Parts are counted from 0: the index is how many are complete before it.
abbrev pub step_in : OpenContainer → Step
step_in (opened (an_array p s c) ts) = Element (length ts)
step_in (opened (a_map p s c) ts) = step_in_map (length (paired ts)) (last_key ts)
step_in (opened (a_tag p w n) ts) = Content n
step_in (opened (in_chunks p k) ts) = Chunk (length ts)

-- The path after these complete items, into the open containers, the innermost first: the step to an item of the sequence, and then the steps inwards.
abbrev pub steps : Trees → List OpenContainer → List Step
steps ts [] = Item (count ts) ∷ []
steps ts (o ∷ os) = steps ts os ++ step_in o ∷ []

-- The bytes f end between two heads: they are complete items, and then the beginnings of the containers that are open at their end. The head that comes next has this path. All are within the highest nesting limit.
abbrev pub EndsAt : List ℕ → List Step → Type 0
EndsAt f path = (ts : Trees) × (os : List OpenContainer) × FitsAll ts × (depth_all ts ≤ 1024) × AreOpen 1024 os × (f ≡ spelled_all ts ++ beginnings os) × (path ≡ steps ts os)

-- The path leads to the place in x: it leads to what follows f, the longest front of x up to the place that ends between two heads. So it leads to the head that begins at the place, or to the one whose argument or string the place is in. Where x isn't well-formed before the place, it leads to the first head that isn't whole or isn't allowed there.
abbrev pub LeadsTo : List ℕ → ℕ → List Step → Type 0
LeadsTo x place path =
    (f : List ℕ) × (y : List ℕ) × (x ≡ f ++ y) × (length f ≤ place) × EndsAt f path
    × ((g z : List ℕ) (other : List Step) → x ≡ g ++ z → length g ≤ place → EndsAt g other → length g ≤ length f)

-- a step to the key of a pair
abbrev pub is_key : Step → Bool
is_key (Key n) = true
is_key _ = false

-- a path up to the first key on it, or all of it
abbrev pub up_to_key : List Step → List Step
up_to_key [] = []
up_to_key (s ∷ path) = s ∷ (if is_key s then [] else up_to_key path)

-- x and y have their first n bytes in common, and no more
abbrev pub DifferFirstAt : List ℕ → List ℕ → ℕ → Type 0
DifferFirstAt x y n = (n ≤ length x) × (n ≤ length y) × (take n x ≡ take n y) × (take (n + 1) x ≡ take (n + 1) y → ⊥)

-- In x and in y the path leads to the byte at which they first differ, or, where that is in a key, to the outermost such key. The place is where that head or key begins, in both.
abbrev pub LeadsToDifference : List ℕ → List ℕ → ℕ → List Step → Type 0
LeadsToDifference x y place path =
    (n : ℕ) × (whole : List Step) × DifferFirstAt x y n × LeadsTo x n whole × LeadsTo y n whole
    × (path ≡ up_to_key whole) × (place ≤ n) × EndsAt (take place x) path × EndsAt (take place y) path
