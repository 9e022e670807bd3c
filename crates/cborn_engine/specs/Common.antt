-- The names from other crates and from the code that definitions and contracts use, each from where it is defined.
pub use Rattle.std.specs.Coded.{Coded, code_by, coded_list, coded_ℕ, coded×}
pub use Rattle.std.specs.Cow.{cow_slice_items}
pub use Rattle.std.specs.Global.{Global}
pub use Rattle.std.specs.Io.{ReadsAtMost, WritesAtMost}
pub use Rattle.std.specs.Io.KnownBytes.{Appends, Consumes, IsAtEnd, Keeps, ReadConsumes, WriteAppends}
pub use Rattle.std.specs.List.{AllByRecursion, AllZip}
pub use Rattle.std.specs.Prelude.{Err, IfErr, IfOk, IfSome, IsFalse, IsTrue, IsUtf8, List, MatchOption, None, Ok, OnOk, Option, Result, Some, Vec, [], drop, length, map, min, refl, slice_get, suc, take, zero, ℕ, ⊤}
pub use Rattle.std.specs.Str.{IsValidUpTo}
pub use Rattle.std.specs.declared.borrow.CowSlice.{CowSlice}
pub use Rattle.std.specs.declared.cmp.Ordering.{Ordering}
pub use Rattle.cborn_model.specs.Meaning.{AllMean, Means}
pub use Rattle.cborn_model.specs.Partial.{Opening, Part, Partial, inside, no_part, part, top}
pub use Rattle.cborn_model.specs.Placed.{PlacedAll}
pub use Rattle.cborn_model.specs.Spelled.{FitsAll, Wellformed, spelled, spelled_all}
pub use Rattle.cborn_model.specs.Tree.{Tree, Trees, place, trees}
pub use Rattle.cborn_model.specs.Valid.{IsProper}
pub use Rattle.cborn_model.specs.Value.{Same, SameValues, Value, Values, values_of}
pub use Rattle.cborn_wire.specs.Faults.{Fault, IsWellformed, Refused}
pub use Rattle.cborn_wire.specs.Reading.{EndsItem, IsFirstItem}
pub use Rattle.cborn_wire.specs.declared.faults.WireFault.{WireFault}
pub use Rattle.cborn_wire.specs.declared.faults.WireReason.{WireReason}
pub use Rattle.cborn_wire.specs.shared.Ground.{place_of}
pub use Rattle.cborn_wire.specs.shared.Visiting.{IsFed}
pub use Rattle.cborn_det.specs.Det.{DetSeq, DetValues}
pub use Rattle.cborn_judge.specs.Defects.{IsFirstOfSequence, SequenceDefect}
pub use Rattle.cborn_judge.specs.Departures.{FindsDefect}
pub use Rattle.cborn_judge.specs.Flaws.{IsRefusalOfAll}
pub use Rattle.cborn_judge.specs.declared.defects.Defect.{Defect}
pub use Rattle.cborn_judge.specs.declared.encoders.Encoder.{Encoder}
pub use Rattle.cborn_judge.specs.declared.faults.Invalid.{Invalid}
pub use Rattle.cborn_judge.specs.declared.faults.InvalidReason.{InvalidReason}
pub use Rattle.cborn_lex.specs.declared.classes.Profile.{Profile}
pub use Rattle.cborn_lex.specs.declared.faults.LexFault.{LexFault}
pub use Rattle.cborn_edn.specs.Faults.{IsNoNotation}
pub use Rattle.cborn_edn.specs.Grammar.{Notates}
pub use Rattle.cborn_edn.specs.Plain.{IsPlain}
pub use Rattle.cborn_edn.specs.Shown.{IsShowFault, Shown}
pub use Rattle.cborn_edn.specs.declared.faults.EdnFault.{EdnFault}
pub use Rattle.cborn_edn.specs.declared.faults.ShowFault.{ShowFault}
pub use Rattle.cborn_engine.specs.declared.count_faults.CompareCountFault.{CompareCountFault}
pub use Rattle.cborn_engine.specs.declared.count_faults.CountFault.{CountFault}
pub use Rattle.cborn_engine.specs.declared.counts.Count.{Count}
pub use Rattle.cborn_engine.specs.declared.faults.CompareFault.{CompareFault}
pub use Rattle.cborn_engine.specs.declared.faults.EngineFault.{EngineFault}
pub use Rattle.cborn_engine.specs.declared.places.Places.{Places}
pub use Rattle.cborn_engine.specs.declared.judged_inputs.Input.{Input}
pub use Rattle.cborn_engine.specs.declared.kinds.Kind.{Kind}
pub use Rattle.cborn_engine.specs.declared.piece_judges.PieceJudge.{PieceJudge}
pub use Rattle.cborn_engine.specs.declared.stream_faults.InputFault.{InputFault}
