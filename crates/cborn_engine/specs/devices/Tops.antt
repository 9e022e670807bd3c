-- A device of the proofs: where the items of an input begin that are in no other. No definition cites it.
use Rattle.std.specs.Prelude.{◌≡◌, ◌∷◌, ◌++◌, Option, None, Some}
use Rattle.cborn_engine.specs.Common.{ℕ, suc, List, [], length, map, slice_get, place, Partial, top, inside, Part, no_part, part, place_of, Places}

-- how many containers are open
abbrev pub open_count : Partial → ℕ
open_count (top ts) = 0
open_count (inside f o ts) = suc (open_count f)

abbrev pub tops : Partial → List ℕ
tops (top ts) = map place ts
tops (inside (top ts) o us) = map place ts ++ place_of o ∷ []
tops (inside (inside f p ts) o us) = tops (inside f p ts)

-- the string of which parts came begins there
abbrev pub IsStringAt : Option ℕ → Part → Type 0
IsStringAt o no_part = o ≡ None
IsStringAt o (part p k w n x) = o ≡ Some p

abbrev pub IsHeld : Places → Partial → Part → Type 0
IsHeld v f c = (length v.around.items ≡ open_count f) × (v.first ≡ slice_get (tops f) 0) × (v.second ≡ slice_get (tops f) 1) × IsStringAt v.string c
