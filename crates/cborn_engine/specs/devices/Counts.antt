-- Devices: encoding what an input holds, where it has to hold a given number of items, and the answer of a call as bytes. No public contract cites them.
use Rattle.std.specs.Prelude.{◌≤◌}
use Rattle.cborn_engine.specs.Common.{ℕ, List, length, Option, None, Some, Result, Ok, Err, Vec, Global, cow_slice_items, CowSlice, Ordering, CountFault, Count, EngineFault, Kind}
use Rattle.cborn_engine.specs.Counts.{CountAnswer}
use Rattle.cborn_engine.specs.devices.Encoding.{EncodeAnswers, IsEncoded}
use Rattle.cborn_engine.specs.Reading.{most_bytes}
use Rattle.cborn_engine.specs.Streams.{Reads}
use Rattle.cborn_engine.specs.Whole.{IsRefusedWhole}

-- encodings, or the input, where they are that
abbrev pub own_or : List ℕ → Option (Vec ℕ Global) → List ℕ
own_or input None = input
own_or input (Some bytes) = bytes.items

-- the encodings of what an input holds that is held whole
abbrev pub EncodedWhole : (List ℕ → List ℕ → Ordering) → Kind → ℕ → List ℕ → Result (Option (Vec ℕ Global)) EngineFault → Type 0
EncodedWhole order k limit input (Ok bytes) = (length input ≤ most_bytes) × IsEncoded order k limit input (own_or input bytes)
EncodedWhole order k limit input (Err why) = IsRefusedWhole k limit most_bytes input why

-- some input was taken from the reader, and these are its encodings
abbrev pub ReadsCount : Count → (List ℕ → List ℕ → Ordering) → Kind → ℕ → Option (List ℕ) → Option (List ℕ) → Result (Vec ℕ Global) CountFault → Type 0
ReadsCount count order k limit = Reads CountFault.Engine (λ input. CountAnswer count k limit input (EncodeAnswers order k limit most_bytes input))

-- an answer, as its bytes
abbrev pub bytes_of : Result (CowSlice ℕ Global) CountFault → Result (List ℕ) CountFault
bytes_of (Ok answer) = Ok (cow_slice_items answer)
bytes_of (Err why) = Err why
