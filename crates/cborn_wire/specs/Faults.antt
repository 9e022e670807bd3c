-- Faults: which bytes are not well-formed (RFC 8949 section 3 and appendix C; floats are left out), at which place, and why.
use Rattle.std.specs.Prelude.{◌≡◌, ℕ, ◌/◌, ◌%◌, List, [], ◌∷◌, ◌++◌, length, take, Bool, true, false, ◌&&◌, ◌||◌, if◌then◌else◌, nat_le, ◌==◌, ◌⊎◌}
use Rattle.cborn_model.specs.Tree.{Trees}
use Rattle.cborn_model.specs.Spelled.{Wellformed}
use Rattle.cborn_wire.specs.declared.faults.WireReason.{WireReason}
use Rattle.cborn_wire.specs.declared.faults.WireReason.TheVariants.{ReservedInfo, EndlessNotAllowed, BadChunk, UnexpectedBreak, FloatLeftOut, BadSimple, TooDeep, Truncated}

abbrev pub IsWellformed : ℕ → List ℕ → Type 0
IsWellformed limit x = (ts : Trees) × Wellformed limit ts x

-- some bytes after f make it well-formed
abbrev pub GoesOn : ℕ → List ℕ → Type 0
GoesOn limit f = (y : List ℕ) × IsWellformed limit (f ++ y)

-- A head begins after f: 0xfc can be in an argument and in a string, but begins no head, since its additional information 28 is reserved (RFC 8949 section 3).
abbrev pub BeginsHead : ℕ → List ℕ → Type 0
BeginsHead limit f = GoesOn limit f × (GoesOn limit (f ++ 0xfc ∷ []) → ⊥)

-- The bytes by which a head is judged: its initial byte b, and in a simple value of two bytes the other one too, which is never below 32 (section 3.3).
abbrev pub judged : ℕ → List ℕ → List ℕ
judged b y = b ∷ (if b == 0xf8 then take 1 y else [])

-- Why a head isn't allowed where it is: the first line that applies to its major type m and its additional information i, the high three and the low five bits of its initial byte. `chunk`: it is in a string of indefinite length, which has definite strings of its kind alone (section 3.2.3). Integers and tags have no indefinite length (section 3.2).
abbrev pub reason_of : Bool → ℕ → ℕ → WireReason
reason_of chunk m i =
    if nat_le 28 i && nat_le i 30 then ReservedInfo
    else if i == 31 && (nat_le m 1 || m == 6) then EndlessNotAllowed
    else if chunk then BadChunk
    else if nat_le 7 m && i == 31 then UnexpectedBreak
    else if nat_le 7 m && (nat_le 25 i && nat_le i 27) then FloatLeftOut
    else if nat_le 7 m && i == 24 then BadSimple
    else TooDeep

-- A chunk is next after f exactly if no integer may be: 0x00 is one, and is allowed wherever another item is.
abbrev pub IsReason : ℕ → List ℕ → ℕ → WireReason → Type 0
IsReason limit f b r =
    (GoesOn limit (f ++ 0x00 ∷ []) × (r ≡ reason_of false (b / 32) (b % 32)))
    ⊎ ((GoesOn limit (f ++ 0x00 ∷ []) → ⊥) × (r ≡ reason_of true (b / 32) (b % 32)))

-- the head at p isn't allowed there
abbrev pub Refused : ℕ → List ℕ → ℕ → WireReason → Type 0
Refused limit x p r =
    (f : List ℕ) × (b : ℕ) × (y : List ℕ) × (x ≡ f ++ b ∷ y) × (length f ≡ p)
    × BeginsHead limit f × (GoesOn limit (f ++ judged b y) → ⊥) × IsReason limit f b r

-- x is not well-formed, ends at p, and goes on
abbrev pub IsCut : ℕ → List ℕ → ℕ → Type 0
IsCut limit x p = (p ≡ length x) × (IsWellformed limit x → ⊥) × GoesOn limit x

-- The bytes x are not well-formed under the limit, at the place p, for the reason r.
abbrev pub Fault : ℕ → List ℕ → ℕ → WireReason → Type 0
Fault limit x p r = Refused limit x p r ⊎ ((r ≡ Truncated) × IsCut limit x p)
