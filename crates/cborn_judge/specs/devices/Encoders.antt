-- A device of the proofs: what an encoder is, as that which it holds of a partial sequence. No definition cites it.
use Rattle.std.specs.Prelude.{◌≡◌, ◌<◌, ◌^◌, ◌∷◌, ◌++◌}
use Rattle.cborn_judge.specs.Common.{ℕ, List, [], length, Bool, true, false, Option, None, Some, IsUtf8, ⊤, Ordering, StringKind, OfBytes, OfText, Width, AreBytes, IsShortest, big_endian, IsByteString, code, IsLeastHead, Tree, Tagged, Partial, inside, Opening, in_chunks, Part, no_part, part, put, IsFree, Ends, built, string_tree, Proper, TakesString, bignum_tag, Container, Level, Findings, Bignum, OpenString, Encodings, Encoder}
use Rattle.cborn_judge.specs.Flaws.{FlawAt}
use Rattle.cborn_judge.specs.shared.Checked.{LooseAt}
use Rattle.cborn_judge.specs.Departures.{FindsDefect, LooseBytesAt}
use Rattle.cborn_judge.specs.shared.Judged.{FindsFlaw}
use Rattle.cborn_judge.specs.devices.Encoding.{kind_major, Mark, Coded, AreEncodedAs, IsSound, Opens, Inner, Stands, Finds, OwnFlaw, OwnDefect, IsOpening, is_chunks}
use Rattle.cborn_judge.specs.devices.Marks.{marks_of}

-- what is left of a string: all, or nothing
abbrev pub kept : Bool → List ℕ → List ℕ
kept true x = x
kept false x = []

-- a string of this kind may hold these bytes
abbrev pub IsContent : StringKind → List ℕ → Type 0
IsContent OfBytes x = ⊤
IsContent OfText x = IsUtf8 x

-- x is the content b of a string, or nothing, if it is flawed, since no string of this kind may hold that
abbrev pub IsChunkContent : Bool → StringKind → List ℕ → List ℕ → Type 0
IsChunkContent false k b x = IsContent k b × (x ≡ b)
IsChunkContent true k b x = (IsContent k b → ⊥) × (x ≡ [])

-- a string in a string of indefinite length, and what stands of it
abbrev pub IsChunk : Partial → Tree → Bool → List ℕ → Type 0
IsChunk (inside f (in_chunks p k) ts) t flawed x = (q : ℕ) × (w : Width) × (b : List ℕ) × (t ≡ string_tree q k w b) × IsChunkContent flawed k b x
IsChunk _ t flawed x = ⊥

-- what stands of a string before its content: its head, or nothing in a string of indefinite length
abbrev pub IsStringFront : Bool → StringKind → ℕ → List ℕ → Type 0
IsStringFront true k n h = h ≡ []
IsStringFront false k n h = IsLeastHead (code (kind_major k)) n h

-- the content of tag 2 or 3 at this place is a byte string, whose number is that of the bytes m, and this the defect of the bignum; or it is no byte string
abbrev pub IsBignumFound : ℕ → Tree → List ℕ → Option Bignum → Type 0
IsBignumFound p t m None = (b : List ℕ) → IsByteString t b → ⊥
IsBignumFound p t m (Some found) = (b : List ℕ) × IsByteString t b × AreBytes m × IsShortest m × (length m < 2 ^ 64) × (big_endian m ≡ big_endian b) × FindsDefect (LooseBytesAt p b) found.defect

module _ (order : List ℕ → List ℕ → Ordering) where
  -- they stand in the front y of the buffer
  abbrev pub StandsAs : Encodings → Partial → List ℕ → Type 0
  StandsAs e f y = Stands order e.outer.items e.innermost f (marks_of e.pairs) y

  abbrev pub StandsIn : Encodings → Partial → Type 0
  StandsIn e f = StandsAs e f e.out.items

  -- the content x of a string was written after the front y of the buffer and h
  pub record Written (e : Encodings) (s : OpenString) (f : Partial) (y h x : List ℕ) : Type 0 where
    pub out : e.out.items ≡ (y ++ h) ++ x
    pub start : s.start ≡ length y
    pub content : s.content ≡ length (y ++ h)
    pub front : IsStringFront (is_chunks e.innermost) s.kind s.len h
    pub bytes : AreBytes x
    pub short : s.len < 2 ^ 64
    pub stands : StandsAs e f y

  -- and all of it came
  abbrev pub IsEndedString : Encodings → OpenString → Partial → List ℕ → List ℕ → List ℕ → Type 0
  IsEndedString e s f y h x = Proper f × TakesString f s.kind × (length x ≡ s.len) × Written e s f y h x

  -- a container of these marks ends well: its encoding takes the place of what stood in the buffer, and what it adds to flaws and defects is found
  abbrev pub EndsWell : Level → Opening → List Mark → List ℕ → List ℕ → Findings → Type 0
  EndsWell l o ms old new found =
      (ts : List Tree) (x z : List ℕ) → Ends o ts → old ≡ x ++ z → l.start ≡ length x → Inner order l o ts ms z
      → (c : List ℕ) × Coded order (built o ts) c × (new ≡ x ++ c) × FindsFlaw (OwnFlaw o ts) found.flaw × (l.flawed ≡ false → found.flaw ≡ None → FindsDefect (OwnDefect order o ts) found.defect)

  -- the innermost container has ended, and adds this to flaws and defects: its encoding stands in the buffer after that of what is around it
  pub record HasEnded (e : Encodings) (f : Partial) (o : Opening) (ts : List Tree) (found : Findings) : Type 0 where
    pub outer : List Level
    pub around : Level
    pub before : List ℕ
    pub encoded : List ℕ
    pub levels : e.outer.items ≡ outer ++ around ∷ []
    pub out : e.out.items ≡ before ++ encoded
    pub opens : Opens e.innermost o
    pub sound : IsSound e.innermost.flawed ts
    pub start : e.innermost.start ≡ length before
    pub coded : Coded order (built o ts) encoded
    pub flaw : FindsFlaw (OwnFlaw o ts) found.flaw
    pub defect : e.innermost.flawed ≡ false → found.flaw ≡ None → FindsDefect (OwnDefect order o ts) found.defect
    pub stands : Stands order outer around f (marks_of e.pairs) before

  -- a bignum ends well, but for its head
  abbrev pub EndsBignum : Level → Bool → List ℕ → List ℕ → Findings → Type 0
  EndsBignum l negative old new found =
      (t : Tree) (w : Width) (x h z : List ℕ) → old ≡ (x ++ h) ++ z → l.start ≡ length x → l.content ≡ length (x ++ h) → IsSound l.flawed (t ∷ []) → (l.flawed ≡ false → AreEncodedAs order (t ∷ []) z)
      → (c : List ℕ) × Coded order (Tagged l.place w (bignum_tag negative) t) c × (new ≡ x ++ c)
      × FindsFlaw (FlawAt (Tagged l.place w (bignum_tag negative) t)) found.flaw × (found.flaw ≡ None → FindsDefect (LooseAt l.place (bignum_tag negative) t) found.defect)

  module _ {O : Type 0} where
    abbrev pub IsHeld : Encoder O → Partial → Part → Type 0
    IsHeld e f no_part = StandsIn e.encodings f × Finds order f e.flaw e.defect
    IsHeld e f (part p k w n x) =
        (s : OpenString) × (y : List ℕ) × (h : List ℕ) × (e.string ≡ Some s) × (s.place ≡ p) × (s.kind ≡ k) × (s.width ≡ w) × (s.len ≡ n)
        × Written e.encodings s f y h x × Finds order f e.flaw e.defect

    -- a container was opened at this place
    abbrev pub OpensAs : Container → ℕ → Encoder O → Encoder O → Type 0
    OpensAs a place e k = (f : Partial) (o : Opening) → IsOpening a place o → IsHeld e f no_part → IsHeld k (inside f o []) no_part

    -- the innermost container was ended
    abbrev pub Closes : Encoder O → Encoder O → Type 0
    Closes e k = (f : Partial) (o : Opening) (ts : List Tree) → IsFree f → Ends o ts → IsHeld e (inside f o ts) no_part → IsHeld k (put f (built o ts)) no_part
