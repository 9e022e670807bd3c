-- What one number, one tag, one `simple(..)` or one string says: its node, and its meaning errors (RFC 8949 section 8). There is always a node, but it counts only if there is no meaning error.
-- In what follows p is the place of a token, m its indicator, and n an argument, a length or a count.
use Rattle.std.specs.Prelude.{ℕ, zero, suc, ◌^◌, List, [], ◌∷◌, ◌++◌, length, Bool, true, false, ◌&&◌, ◌||◌, not, nat_lt, if◌then◌else◌}
use Rattle.cborn_edn.specs.Common.{is_utf8, digits_of, Width, Direct, Size, Fixed, Endless as EndlessMark, Chunk, holds, least, is_simple_value, Tree, Uint, Nint, Bytes as ByteNode, Text as TextNode, ByteChunks, TextChunks, Tagged, Mark, Absent, Wide, StringKind, OfBytes, OfText, MeaningError, EdnReason, IndicatorTooNarrow, IndicatorNotAllowed, MixedString, MixedChunks, TextNotUtf8, BadSimple, TagTooLarge}
use Rattle.cborn_lex.specs.declared.classes.Mark.TheVariants.{Endless}

-- Encoding indicators (RFC 8949 section 8.1): `_` asks for an indefinite length, `_0` to `_3` for the argument in 1, 2, 4 or 8 bytes.

-- there is no indicator
abbrev pub is_absent : Mark → Bool
is_absent Absent = true
is_absent _ = false

-- it is `_`
abbrev pub is_endless : Mark → Bool
is_endless Endless = true
is_endless _ = false

-- the width of a head with the argument n: the one that the indicator asks for, or the shortest (RFC 8949 section 4.2.1)
abbrev pub width : Mark → ℕ → Width
width (Wide w) n = w
width _ n = least n

-- the length of an array or a map with n items or pairs: indefinite, or definite in a head of that width
abbrev pub size : Mark → ℕ → Size
size Endless n = EndlessMark
size m n = Fixed (width m n)

-- one meaning error at p for this reason, unless the test is true
abbrev pub unless : Bool → ℕ → EdnReason → List MeaningError
unless true p l = []
unless false p l = record { place = p; reason = l } ∷ []

-- of a head with the argument n: n has to fit the width that is asked for, and an indefinite length can't be asked for
abbrev pub width_errors : ℕ → Mark → ℕ → List MeaningError
width_errors p Absent n = []
width_errors p Endless n = unless false p IndicatorNotAllowed
width_errors p (Wide w) n = unless (holds w n) p IndicatorTooNarrow

-- of an array or a map with n items or pairs, whose length may be indefinite (RFC 8949 section 3.2.2)
abbrev pub size_errors : ℕ → Mark → ℕ → List MeaningError
size_errors p Endless n = []
size_errors p m n = width_errors p m n

-- Integers (RFC 8949 sections 3.1, 3.4.3). The integer is -v if n is true, and else v.

-- it is below zero; -0 isn't
abbrev pub is_below : Bool → ℕ → Bool
is_below true zero = false
is_below true (suc v) = true
is_below false v = false

-- the argument of its head: v for the integer v, and v for -1-v (RFC 8949 section 3.1)
abbrev pub argument_of : Bool → ℕ → ℕ
argument_of true zero = 0
argument_of true (suc v) = v
argument_of false v = v

-- it is from -2^64 to 2^64-1, and so of major type 0 or 1
abbrev pub is_small : Bool → ℕ → Bool
is_small n v = nat_lt (argument_of n v) (2 ^ 64)

-- how deep it is: any other integer is a tag over a byte string, which is one level
abbrev pub depth_of_number : Bool → ℕ → ℕ
depth_of_number n v = if is_small n v then 0 else 1

-- an integer of major type 0 or 1
abbrev pub integer : ℕ → Bool → ℕ → Width → Tree
integer p n v w = if is_below n v then Nint p w (argument_of n v) else Uint p w (argument_of n v)

-- a bignum: tag 2 or 3 over the shortest bytes, in the shortest heads (RFC 8949 section 3.4.3)
abbrev pub bignum : ℕ → Bool → ℕ → Tree
bignum p n v = let x = digits_of 256 (argument_of n v) in Tagged p Direct (if is_below n v then 3 else 2) (ByteNode p (least (length x)) x)

-- the node of an integer: one of the two
abbrev pub number_node : ℕ → Bool → ℕ → Mark → Tree
number_node p n v m = if is_small n v then integer p n v (width m (argument_of n v)) else bignum p n v

-- the meaning errors of an integer: a bignum can't have an indicator
abbrev pub number_errors : ℕ → Bool → ℕ → Mark → List MeaningError
number_errors p n v m = if is_small n v then width_errors p m (argument_of n v) else unless (is_absent m) p IndicatorNotAllowed

-- the meaning errors of a tag: its number is below 2^64 (RFC 8949 section 3.4); the indicator of a larger one isn't judged
abbrev pub tag_errors : ℕ → Mark → ℕ → List MeaningError
tag_errors p m n = if nat_lt n (2 ^ 64) then width_errors p m n else unless false p TagTooLarge

-- there is such a simple value: 0 to 23 or 32 to 255 (RFC 8949 section 3.3)
abbrev pub is_simple : Bool → ℕ → Bool
is_simple n v = not (is_below n v) && is_simple_value v

-- the meaning errors of `simple(` at p with the number at q, which can't have an indicator
abbrev pub simple_errors : ℕ → ℕ → Bool → ℕ → Mark → List MeaningError
simple_errors p q n v m = unless (is_simple n v) p BadSimple ++ unless (is_absent m) q IndicatorNotAllowed

-- Strings (RFC 8949 sections 3.1, 3.2.3; RFC 8610 appendix G.4).

-- both are byte strings, or both text strings
abbrev pub same_kind : StringKind → StringKind → Bool
same_kind OfBytes OfBytes = true
same_kind OfText OfText = true
same_kind _ _ = false

-- a piece of the kind l may follow in a string of the kind k: bytes may be a part of a text string, but text no part of a byte string
abbrev pub may_join : StringKind → StringKind → Bool
may_join k l = same_kind k l || same_kind k OfText

-- a text string is UTF-8 (RFC 8949 section 3.1)
abbrev pub is_good : StringKind → List ℕ → Bool
is_good OfBytes x = true
is_good OfText x = is_utf8 x

-- a definite string
abbrev pub string_node : StringKind → ℕ → Width → List ℕ → Tree
string_node OfBytes p w x = ByteNode p w x
string_node OfText p w x = TextNode p w x

-- a string of indefinite length
abbrev pub chunked_node : StringKind → ℕ → List Chunk → Tree
chunked_node OfBytes p cs = ByteChunks p cs
chunked_node OfText p cs = TextChunks p cs

-- What the pieces of a string are together. The first gives its kind and its place, the last its indicator and the place of that. It is lone if it is one piece, '' or "". It is known if nothing embedded in it has a meaning error, so that its bytes are what is meant.
pub record Str : Type 0 where
  pub kind : StringKind
  pub place : ℕ
  pub lone : Bool
  pub known : Bool
  pub bytes : List ℕ
  pub mark : Mark
  pub mark_place : ℕ

-- the empty list
abbrev pub is_nil : {A : Type 0} → List A → Bool
is_nil [] = true
is_nil (x ∷ l) = false

-- one piece; q says whether it is in quotes without a prefix
abbrev pub quoted : StringKind → ℕ → Bool → List ℕ → Mark → Str
quoted k p q x m = record { kind = k; place = p; lone = q && is_nil x; known = true; bytes = x; mark = m; mark_place = p }

-- pieces s and one piece t after them
abbrev pub joined : Str → Str → Str
joined s t = record { kind = s.kind; place = s.place; lone = false; known = s.known && t.known; bytes = s.bytes ++ t.bytes; mark = t.mark; mark_place = t.mark_place }

-- the node of a string: ''_ and ""_ are of indefinite length without a chunk (RFC 8949 section 8.1), any other is definite
abbrev pub said_string : Str → Tree
said_string s = if s.lone && is_endless s.mark then chunked_node s.kind s.place [] else string_node s.kind s.place (width s.mark (length s.bytes)) s.bytes

-- a chunk: a definite string
abbrev pub chunk : Str → Chunk
chunk s = record { place = s.place; width = width s.mark (length s.bytes); bytes = s.bytes }

-- the meaning errors of a piece t after pieces s: only the last piece has an indicator, and the kind of t may follow theirs
abbrev pub piece_errors : Str → Str → List MeaningError
piece_errors s t = unless (is_absent s.mark) s.mark_place IndicatorNotAllowed ++ unless (may_join s.kind t.kind) t.place MixedString

-- the meaning errors of a whole string's indicator: `_` is allowed only if the string may be of indefinite length without a chunk, and the length has to fit a width
abbrev pub mark_errors : Bool → Str → List MeaningError
mark_errors may_end s = if is_endless s.mark then unless may_end s.mark_place IndicatorNotAllowed else if s.known then width_errors s.mark_place s.mark (length s.bytes) else []

-- the meaning errors of a whole string; may_end says whether it may be of indefinite length without a chunk
abbrev pub string_errors : Bool → Str → List MeaningError
string_errors may_end s = mark_errors may_end s ++ (if s.known then unless (is_good s.kind s.bytes) s.place TextNotUtf8 else [])

-- the meaning errors of a chunk after the first, which is of the kind k: it is a definite string of that kind (RFC 8949 section 3.2.3)
abbrev pub chunk_errors : StringKind → Str → List MeaningError
chunk_errors k s = unless (same_kind k s.kind) s.place MixedChunks ++ string_errors false s
