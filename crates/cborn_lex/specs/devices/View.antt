-- A device of the proofs: what the private types of the code stand for. No definition cites it.
use Rattle.std.specs.Prelude.{◌≡◌, ℕ, List, true, ◌==◌, if◌then◌else◌}
use Rattle.cborn_lex.specs.Common.{Class, Mark, Text, Bytes}
use Rattle.cborn_lex.specs.declared.fronts.Front.{Front as FrontIn}
use Rattle.cborn_lex.specs.declared.fronts.Front.TheVariants as fronts
use Rattle.cborn_lex.specs.Tokens.{Front, WhiteSpace, Read, Bad}
use Rattle.cborn_lex.specs.Kinds.{class_of, StandsFor}

-- what a front of the code is, with the number n or the content x
abbrev pub front_view : ℕ → List ℕ → FrontIn → Front
front_view n x fronts.WhiteSpace = WhiteSpace
front_view n x (fronts.Read k) = Read (class_of k n x)
front_view n x (fronts.Bad r) = Bad r

-- a front of the code, the number n and what was appended to old to make it new are the front a
abbrev pub FrontStandsFor : FrontIn → ℕ → List ℕ → List ℕ → Front → Type 0
FrontStandsFor fronts.WhiteSpace n old new a = (a ≡ WhiteSpace) × (new ≡ old)
FrontStandsFor (fronts.Read k) n old new a = (c : Class) × (a ≡ Read c) × StandsFor k n old new c
FrontStandsFor (fronts.Bad r) n old new a = a ≡ Bad r

-- what a string between quotes q is, by its bytes and its indicator
abbrev pub of_quoted : ℕ → List ℕ → Mark → Class
of_quoted q = if q == 34 then Text else Bytes true
