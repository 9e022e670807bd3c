-- The numbers of formats, orders of keys, faults and defects in C. That of a fault or a defect is 256 times its class, plus its reason. The classes: 1 bytes, 2 tokens, 3 notation, 4 texts that aren't UTF-8, 5 invalid items, 6 defects, 7 inputs that aren't one item.
use Rattle.std.specs.Prelude.{◌≡◌, ◌⊎◌, ◌/◌, ℕ, zero, suc, List, Option, None, Some, unwrap_or}
use Rattle.std.specs.declared.cmp.Ordering.{Ordering}
use Rattle.cborn_model.specs.Orders.{bytewise, length_first}
use Rattle.cborn_wire.specs.declared.faults.WireReason.{WireReason}
use Rattle.cborn_wire.specs.declared.faults.WireReason.TheVariants as wire
use Rattle.cborn_wire.specs.declared.faults.WireFault.TheVariants as wire_fault
use Rattle.cborn_lex.specs.declared.faults.LexReason.{LexReason}
use Rattle.cborn_lex.specs.declared.faults.LexReason.TheVariants as lex
use Rattle.cborn_lex.specs.declared.faults.LexFault.TheVariants as lex_fault
use Rattle.cborn_edn.specs.declared.faults.EdnReason.{EdnReason}
use Rattle.cborn_edn.specs.declared.faults.EdnReason.TheVariants as edn
use Rattle.cborn_edn.specs.declared.faults.EdnFault.TheVariants as edn_fault
use Rattle.cborn_edn.specs.declared.faults.ShowFault.TheVariants as unshown
use Rattle.cborn_judge.specs.declared.faults.InvalidReason.{InvalidReason}
use Rattle.cborn_judge.specs.declared.faults.InvalidReason.TheVariants as invalid
use Rattle.cborn_judge.specs.declared.faults.Invalid.TheVariants as invalid_fault
use Rattle.cborn_judge.specs.declared.defects.DefectReason.{DefectReason}
use Rattle.cborn_judge.specs.declared.defects.DefectReason.TheVariants as defect
use Rattle.cborn_explain.specs.Faults.{place_of}
use Rattle.cborn_engine.specs.declared.faults.EngineFault.{EngineFault}
use Rattle.cborn_engine.specs.declared.faults.EngineFault.TheVariants as fault
use Rattle.cborn_engine.specs.declared.count_faults.CountFault.{CountFault}
use Rattle.cborn_engine.specs.declared.count_faults.CountFault.TheVariants as counted
use Rattle.cborn_engine.specs.declared.kinds.Kind.{Kind}
use Rattle.cborn_engine.specs.declared.kinds.Kind.TheVariants as kind
use Rattle.cborn_c.specs.declared.numbers.KeyOrdering.{KeyOrdering}
use Rattle.cborn_c.specs.declared.numbers.KeyOrdering.TheVariants as ordering

abbrev pub numbered_kind : ℕ → Option Kind
numbered_kind zero = Some kind.Wire
numbered_kind (suc zero) = Some kind.Notation
numbered_kind (suc (suc zero)) = Some kind.Notation2
numbered_kind (suc (suc (suc n))) = None

abbrev pub numbered_order : ℕ → Option KeyOrdering
numbered_order zero = Some ordering.Bytewise
numbered_order (suc zero) = Some ordering.LengthFirst
numbered_order (suc (suc n)) = None

abbrev pub order_of : KeyOrdering → List ℕ → List ℕ → Ordering
order_of ordering.Bytewise = bytewise
order_of ordering.LengthFirst = length_first

abbrev pub wire_number : WireReason → ℕ
wire_number wire.ReservedInfo = 257
wire_number wire.EndlessNotAllowed = 258
wire_number wire.BadChunk = 259
wire_number wire.UnexpectedBreak = 260
wire_number wire.FloatLeftOut = 261
wire_number wire.BadSimple = 262
wire_number wire.TooDeep = 263
wire_number wire.Truncated = 264

abbrev pub lex_number : LexReason → ℕ
lex_number lex.UnexpectedCharacter = 513
lex_number lex.UnclosedString = 514
lex_number lex.UnclosedComment = 515
lex_number lex.BadEscape = 516
lex_number lex.BadHex = 517
lex_number lex.BadBase64 = 518
lex_number lex.UnknownPrefix = 519
lex_number lex.BadNumber = 520
lex_number lex.NumberTooLarge = 521
lex_number lex.BadIndicator = 522
lex_number lex.FloatLeftOut = 523

abbrev pub edn_number : EdnReason → ℕ
edn_number edn.UnexpectedToken = 769
edn_number edn.UnexpectedEnd = 770
edn_number edn.TooDeep = 771
edn_number edn.IndicatorTooNarrow = 772
edn_number edn.IndicatorNotAllowed = 773
edn_number edn.MixedString = 774
edn_number edn.MixedChunks = 775
edn_number edn.TextNotUtf8 = 776
edn_number edn.BadSimple = 777
edn_number edn.TagTooLarge = 778

abbrev pub invalid_number : InvalidReason → ℕ
invalid_number invalid.NotUtf8 = 1281
invalid_number invalid.BadBignum = 1282
invalid_number invalid.DuplicateKey = 1283

abbrev pub defect_number : DefectReason → ℕ
defect_number defect.LongHead = 1537
defect_number defect.EndlessLength = 1538
defect_number defect.LooseBignum = 1539
defect_number defect.KeyOrder = 1540

-- the number of a fault. 3: memory was refused. An input in memory has no failed read or write, so these have the same number.
abbrev pub fault_number : EngineFault → ℕ
fault_number (fault.Wire (wire_fault.Refused p r)) = wire_number r
fault_number (fault.Edn (edn_fault.Lex (lex_fault.Refused p r))) = lex_number r
fault_number (fault.Edn (edn_fault.Refused p r)) = edn_number r
fault_number (fault.TextInput p) = 1025
fault_number (fault.Invalid (invalid_fault.Refused p r)) = invalid_number r
fault_number (fault.Show (unshown.NotUtf8 p)) = 1026
fault_number fault.TooLong = 4
fault_number _ = 3

-- the number of a fault where the input has to hold a given number of items
abbrev pub counted_number : CountFault → ℕ
counted_number (counted.Engine why) = fault_number why
counted_number (counted.NoItem p) = 1793
counted_number (counted.MoreItems p) = 1794

-- the offset of a fault. 0: it isn't in the content of the input.
abbrev pub counted_place : CountFault → ℕ
counted_place why = unwrap_or (place_of why) 0

-- The class of a number is one of the faults in the content of an input of this format. Bytes have a text string that can't be shown, too.
abbrev pub IsOfFormat : Kind → ℕ → Type 0
IsOfFormat kind.Wire number = (number / 256 ≡ 1) ⊎ (number / 256 ≡ 5) ⊎ (number / 256 ≡ 7) ⊎ (number ≡ 1026)
IsOfFormat kind.Notation number = (number / 256 ≡ 2) ⊎ (number / 256 ≡ 3) ⊎ (number / 256 ≡ 5) ⊎ (number / 256 ≡ 7) ⊎ (number ≡ 1025)
IsOfFormat kind.Notation2 number = (number / 256 ≡ 2) ⊎ (number / 256 ≡ 3) ⊎ (number / 256 ≡ 5) ⊎ (number / 256 ≡ 7) ⊎ (number ≡ 1025)
