-- A device of the proofs: tokens as a text has them: contents are bytes, numbers are below 2^128, and words are simple values below 24. No definition cites it.
use Rattle.std.specs.Prelude.{◌^◌, ◌<◌, List, [], ◌∷◌}
use Rattle.cborn_model.specs.Bytes.{AreBytes}
use Rattle.cborn_lex.specs.Common.{Class, Number, Word, Text, Bytes, Token}

abbrev pub IsModest : Class → Type 0
IsModest (Number n v m) = v < 2 ^ 128
IsModest (Word n) = n < 24
IsModest (Text x m) = AreBytes x
IsModest (Bytes q x m) = AreBytes x
IsModest _ = Unit {0}

abbrev pub AreModest : List Token → Type 0
AreModest [] = Unit {0}
AreModest (t ∷ ts) = IsModest t.class × AreModest ts
