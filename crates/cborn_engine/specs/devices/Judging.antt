-- Devices: bytes that are judged as they come in pieces. No public contract cites them.
use Rattle.std.specs.Prelude.{◌≡◌, ◌≤◌}
use Rattle.cborn_engine.specs.Common.{ℕ, List, length, Option, None, Some, Result, Ok, Err, Ordering, Encoder, Partial, Part, Refused, WireReason, IsFed, Count, EngineFault, Input, Kind, InputFault, PieceJudge}
use Rattle.cborn_engine.specs.devices.Encoding.{AreJudged}
use Rattle.cborn_engine.specs.Collecting.{CollectsOn}
use Rattle.cborn_engine.specs.Faults.{of_input}
use Rattle.cborn_engine.specs.Reading.{most_bytes}
use Rattle.cborn_engine.specs.Refusing.{IsRefused}
use Rattle.cborn_engine.specs.Streams.{Reads}

-- the bytes x came: the encoder holds what they spell; or they have this fault, whatever follows
module _ {O : Type 0} (holds : Encoder O → Partial → Part → Type 0) (j : PieceJudge O) (x : List ℕ) where
  abbrev pub HasJudged : Option (ℕ × WireReason) → Type 0
  HasJudged None = IsFed (holds j.encoder) j.levels.outer.items j.levels.inner j.heads 0 x × (j.heads.at ≡ length x)
  HasJudged (Some f) = Refused j.heads.limit x f.0 f.1

  abbrev pub IsJudging : ℕ → Type 0
  IsJudging limit = (j.heads.limit ≡ limit) × HasJudged j.fault

-- an input that was read, kept whole or judged as it was read
abbrev pub InputAnswers : (List ℕ → List ℕ → Ordering) → Count → Kind → ℕ → List ℕ → Result Input EngineFault → Type 0
InputAnswers order count k limit input (Ok (Input.Whole bytes)) = (bytes.items ≡ input) × (length input ≤ most_bytes)
InputAnswers order Count.Any Kind.Wire limit input (Ok (Input.Judged e)) = (length input ≤ most_bytes) × AreJudged order limit input e.bytes.items e.defect
InputAnswers order count k limit input (Ok (Input.Judged e)) = ⊥
InputAnswers order count k limit input (Err why) = IsRefused k limit most_bytes input why

-- some input was taken from the reader, and this is answered for it
abbrev pub ReadsInput : (List ℕ → List ℕ → Ordering) → Count → Kind → ℕ → Option (List ℕ) → Option (List ℕ) → Result Input EngineFault → Type 0
ReadsInput order count k limit = Reads (λ why. why) (InputAnswers order count k limit)

-- after this front the rest of an input was read too, or not
abbrev pub ReadsWhole : List ℕ → Option (List ℕ) → Option (List ℕ) → Result Input EngineFault → Type 0
ReadsWhole front before after (Ok (Input.Whole bytes)) = CollectsOn front most_bytes before after (Ok bytes)
ReadsWhole front before after (Ok (Input.Judged e)) = ⊥
ReadsWhole front before after (Err why) = (f : InputFault) × (why ≡ of_input f) × CollectsOn front most_bytes before after (Err f)
