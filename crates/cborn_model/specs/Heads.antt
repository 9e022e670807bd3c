-- Heads (RFC 8949 section 3): an initial byte with the major type in its high three bits and the additional information in its low five, and the bytes of an argument that follows it.
use Rattle.std.specs.Prelude.{◌≡◌, ◌+◌, ◌*◌, ◌^◌, ◌<◌, ◌∷◌, ◌&&◌, ◌||◌, if◌then◌else◌}
use Rattle.cborn_model.specs.Common.{ℕ, zero, suc, List, [], Bool, nat_lt, nat_le, w16, w32, w64, to_be_bytes, Width, Direct, One, Two, Four, Eight, Size, Fixed, Endless, Major, Unsigned, Negative, ByteString, TextString, Array, Map, Tag, Other}

-- the number of a major type
abbrev pub code : Major → ℕ
code Unsigned = 0
code Negative = 1
code ByteString = 2
code TextString = 3
code Array = 4
code Map = 5
code Tag = 6
code Other = 7

-- the major type with this number, 0 to 7
abbrev pub major_at : ℕ → Major
major_at zero = Unsigned
major_at (suc zero) = Negative
major_at (suc (suc zero)) = ByteString
major_at (suc (suc (suc zero))) = TextString
major_at (suc (suc (suc (suc zero)))) = Array
major_at (suc (suc (suc (suc (suc zero))))) = Map
major_at (suc (suc (suc (suc (suc (suc zero)))))) = Tag
major_at (suc (suc (suc (suc (suc (suc (suc n))))))) = Other

-- a head of this width has room for the argument n
abbrev pub WidthFits : Width → ℕ → Type 0
WidthFits Direct n = n < 24
WidthFits One n = n < 256
WidthFits Two n = n < 2 ^ 16
WidthFits Four n = n < 2 ^ 32
WidthFits Eight n = n < 2 ^ 64

-- whether a head of this width has room for the argument n
abbrev pub holds : Width → ℕ → Bool
holds Direct n = nat_lt n 24
holds One n = nat_lt n 256
holds Two n = nat_lt n (2 ^ 16)
holds Four n = nat_lt n (2 ^ 32)
holds Eight n = nat_lt n (2 ^ 64)

-- the additional information
abbrev pub information : Width → ℕ → ℕ
information Direct n = n
information One n = 24
information Two n = 25
information Four n = 26
information Eight n = 27

-- the bytes of the argument after the initial byte, the highest first
abbrev pub following : Width → ℕ → List ℕ
following Direct n = []
following One n = n ∷ []
following Two n = to_be_bytes w16 n
following Four n = to_be_bytes w32 n
following Eight n = to_be_bytes w64 n

-- the bytes of a head of the major type with this number
abbrev pub head_bytes : ℕ → Width → ℕ → List ℕ
head_bytes major w n = (32 * major + information w n) ∷ following w n

-- x is the head of the major type with the argument n
abbrev pub IsHead : ℕ → Width → ℕ → List ℕ → Type 0
IsHead major w n x = WidthFits w n × (x ≡ head_bytes major w n)

-- the first width that has room for n
abbrev pub least : ℕ → Width
least n =
    if nat_lt n 24 then Direct
    else if nat_lt n 256 then One
    else if nat_lt n (2 ^ 16) then Two
    else if nat_lt n (2 ^ 32) then Four
    else Eight

-- x is the shortest head of the major type with the argument n (RFC 8949 section 4.2.1)
abbrev pub IsLeastHead : ℕ → ℕ → List ℕ → Type 0
IsLeastHead major n x = IsHead major (least n) n x

-- whether n is a simple value: 0 to 23, in the initial byte, or 32 to 255, in the byte after it (RFC 8949 section 3.3)
abbrev pub is_simple_value : ℕ → Bool
is_simple_value n = nat_lt n 24 || (nat_le 32 n && nat_lt n 256)

-- what a head says besides its major type: an argument, or that the length is indefinite
pub data Argument : Type 0 where
  Given : Width → ℕ → Argument
  EndlessArgument : Argument

abbrev pub head : Major → Argument → List ℕ
head m (Given w n) = head_bytes (code m) w n
head m EndlessArgument = (32 * code m + 31) ∷ []

-- the argument of an array or a map of n entries
abbrev pub argument : Size → ℕ → Argument
argument (Fixed w) n = Given w n
argument Endless n = EndlessArgument

-- n entries fit the head
abbrev pub SizeFits : Size → ℕ → Type 0
SizeFits (Fixed w) n = WidthFits w n
SizeFits Endless n = Unit {0}
