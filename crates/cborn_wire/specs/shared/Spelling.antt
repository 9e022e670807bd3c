-- A device of the proofs, which crates above share: the bytes that the visitor which writes them holds.
use Rattle.std.specs.Prelude.{◌≡◌, ℕ, ◌+◌, ◌/◌, ◌%◌, ◌^◌, ◌<◌, List, [], ◌∷◌, ◌++◌, length, take, drop, Option, Some, None}
use Rattle.cborn_model.specs.declared.heads.Major.{Major}
use Rattle.cborn_model.specs.declared.heads.Major.TheVariants.{Array, Map, Tag}
use Rattle.cborn_model.specs.declared.heads.Size.{Size}
use Rattle.cborn_model.specs.declared.heads.Size.TheVariants.{Fixed, Endless}
use Rattle.cborn_model.specs.declared.heads.Width.{Width}
use Rattle.cborn_model.specs.Heads.{head, argument}
use Rattle.cborn_model.specs.Tree.{trees}
use Rattle.cborn_model.specs.Spelled.{ending, spelled_all}
use Rattle.cborn_model.specs.Partial.{Opening, an_array, a_map, a_tag, in_chunks, Partial, top, inside, Part, ended_size}
use Rattle.cborn_wire.specs.Slots.{major_of, opened, beginning}
use Rattle.cborn_wire.specs.shared.Machine.{partial_bytes}
use Rattle.cborn_wire.specs.shared.Visiting.{unfinished}
use Rattle.cborn_wire.specs.declared.spellers.Ending.{Ending}
use Rattle.cborn_wire.specs.declared.spellers.Ending.TheVariants.{Nothing, Break, Later}
use Rattle.cborn_wire.specs.declared.spellers.OpenSpelling.{OpenSpelling}
use Rattle.cborn_wire.specs.declared.spellers.Speller.{Speller}

-- the bytes of whole nodes and of what is open; a head whose number isn't known is one byte
abbrev pub written : Partial → List ℕ
written (top ts) = spelled_all (trees ts)
written (inside f o ts) = written f ++ beginning (opened o ts)

-- the major type of a container, and how its head says where it ends; for a tag the number in its head
abbrev pub shape : Opening → Major × Size × Option ℕ
shape (an_array q s c) = (Array, s, c)
shape (a_map q s c) = (Map, s, c)
shape (a_tag q w n) = (Tag, Fixed w, Some n)
shape (in_chunks q k) = (major_of k, Endless, None)

-- what is to be written at its end
abbrev pub sized_ending : Major → Size → Option ℕ → Ending
sized_ending m (Fixed w) None = Later m w
sized_ending m (Fixed w) (Some n) = Nothing
sized_ending m Endless c = Break

abbrev pub ending_of : Major × Size × Option ℕ → Ending
ending_of h = sized_ending h.0 h.1 h.2

-- a number as it is counted in 64 bits
abbrev pub counted : ℕ → ℕ
counted n = n % 2 ^ 64

-- a container inside f, in which k nodes are whole
abbrev pub container : Partial → Opening → ℕ → OpenSpelling
container f o k = record { start = length (written f); nodes = k; ending = ending_of (shape o) }

-- the open containers, the outermost first
abbrev pub containers_of : Partial → List OpenSpelling
containers_of (top ts) = []
containers_of (inside f o ts) = containers_of f ++ container f o (counted (length ts)) ∷ []

-- the partial sequence is f, and the bytes x are written after it
abbrev pub Stands : Speller → Partial → List ℕ → Type 0
Stands s f x = (s.out.items ≡ written f ++ x) × (s.containers.items ≡ containers_of f)

abbrev pub IsWritten : Speller → Partial → Part → Type 0
IsWritten s f c = Stands s f (partial_bytes (unfinished c))

-- a head of at least the width w, for n items or pairs, in the place of the byte at the offset p
abbrev pub with_head : Major → Width → ℕ → ℕ → List ℕ → List ℕ
with_head m w n p x = take p x ++ (head m (argument (ended_size (Fixed w) None n) n) ++ drop (p + 1) x)

-- how many items or pairs k nodes are
abbrev pub entries_in : Major → ℕ → ℕ
entries_in Map k = k / 2
entries_in m k = k

-- y is x with what is owed at the end of a container of k nodes, whose head is at the offset p
abbrev pub IsEnded : Ending → ℕ → ℕ → List ℕ → List ℕ → Type 0
IsEnded Nothing k p x y = y ≡ x
IsEnded Break k p x y = y ≡ x ++ ending Endless
IsEnded (Later m w) k p x y = p < length x → y ≡ with_head m w (entries_in m k) p x
