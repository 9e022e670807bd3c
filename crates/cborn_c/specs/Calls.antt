-- What a call from C answers.
use Rattle.std.specs.Prelude.{◌≡◌, ℕ, ◌<◌, ◌≤◌, ◌⊎◌, ◌+◌, ◌∷◌, ◌++◌, [], Bool, true, false, List, length, drop, Option, None, Some, Result, Ok, Err}
use Rattle.std.specs.declared.alloc.AllocError.{AllocError}
use Rattle.std.specs.declared.string.String.{String}
use Rattle.std.specs.Global.{Global}
use Rattle.std.specs.String.{string_bytes}
use Rattle.std.specs.Cow.{cow_slice_items}
use Rattle.std.specs.declared.borrow.CowSlice.{CowSlice}
use Rattle.cborn_judge.specs.declared.defects.Defect.{Defect}
use Rattle.cborn_judge.specs.declared.defects.DefectReason.{DefectReason}
use Rattle.cborn_wire.specs.declared.faults.WireFault.{WireFault}
use Rattle.cborn_wire.specs.Reading.{EndsItem}
use Rattle.cborn_engine.specs.declared.faults.EngineFault.TheVariants as fault
use Rattle.cborn_engine.specs.declared.count_faults.CompareCountFault.{CompareCountFault}
use Rattle.cborn_engine.specs.declared.count_faults.CompareCountFault.TheVariants as compared
use Rattle.cborn_engine.specs.declared.count_faults.CountFault.{CountFault}
use Rattle.cborn_engine.specs.declared.count_faults.CountFault.TheVariants as counted
use Rattle.cborn_engine.specs.declared.counts.Count.{Count}
use Rattle.cborn_engine.specs.declared.counts.Count.TheVariants as counts
use Rattle.cborn_engine.specs.declared.kinds.Kind.{Kind}
use Rattle.cborn_engine.specs.declared.kinds.Kind.TheVariants as kind
use Rattle.cborn_c.specs.declared.numbers.KeyOrdering.{KeyOrdering}
use Rattle.cborn_c.specs.declared.answers.CbornTold.{CbornTold}
use Rattle.cborn_c.specs.Numbers.{order_of, counted_number, counted_place, defect_number, IsOfFormat}
use Rattle.cborn_engine.specs.Counts.{CountAnswer, NormalisedWhole, ShownWhole, CheckedWhole}
use Rattle.cborn_c.specs.Answers.{Compared, Matched}

-- the buffer begins with the answer, and is unchanged after it; or it is too small for the answer, and unchanged
abbrev pub IsPut : List ℕ → List ℕ → List ℕ → ℕ → Type 0
IsPut answer before after code =
    ((code ≡ 0) × (length answer ≤ length before) × (after ≡ answer ++ drop (length answer) before)) ⊎ ((code ≡ 1) × (length before < length answer) × (after ≡ before))

-- the answer is in the buffer or doesn't fit it, and its length is reported; or the fault is reported and the buffer is unchanged
abbrev pub Told : Result (CowSlice ℕ Global) CountFault → List ℕ → List ℕ → CbornTold → ℕ → Type 0
Told (Ok answer) before after told code = IsPut (cow_slice_items answer) before after code × (told.length ≡ length (cow_slice_items answer)) × (told.place ≡ 0)
Told (Err why) before after told code = (code ≡ counted_number why) × (told.place ≡ counted_place why) × (told.length ≡ 0) × (after ≡ before)

-- an argument's number means nothing: the buffer, and what a call reports besides its number, are unchanged
abbrev pub IsBad : List ℕ → List ℕ → CbornTold → CbornTold → ℕ → Type 0
IsBad before after untold told code = (code ≡ 2) × (after ≡ before) × (told ≡ untold)

abbrev pub IsBadPlaced : ℕ → ℕ → ℕ → Type 0
IsBadPlaced unplaced place code = (code ≡ 2) × (place ≡ unplaced)

abbrev pub IsDepth : ℕ → Type 0
IsDepth limit = (1 ≤ limit) × (limit ≤ 1024)

-- some answer is right, and is reported so
abbrev pub Reports : {A : Type 0} → (A → Type 0) → (A → Type 0) → Type 0
Reports {A} IsRight IsTold = (answer : A) × IsRight answer × IsTold answer

abbrev pub NormaliseCall : Count → Option Kind → Option Kind → Option KeyOrdering → ℕ → List ℕ → List ℕ → List ℕ → CbornTold → CbornTold → ℕ → Type 0
NormaliseCall count (Some k) (Some out) (Some order) limit x before after untold told code =
    (IsDepth limit → Reports (CountAnswer count k limit x (NormalisedWhole (order_of order) k out limit x)) (λ answer. Told answer before after told code)) × ((IsDepth limit → ⊥) → IsBad before after untold told code)
NormaliseCall count (Some k) (Some out) None limit x before after untold told code = IsBad before after untold told code
NormaliseCall count (Some k) None order limit x before after untold told code = IsBad before after untold told code
NormaliseCall count None out order limit x before after untold told code = IsBad before after untold told code

abbrev pub ShowCall : Count → Option Kind → Option Kind → ℕ → List ℕ → List ℕ → List ℕ → CbornTold → CbornTold → ℕ → Type 0
ShowCall count (Some k) (Some out) limit x before after untold told code =
    (IsDepth limit → Reports (CountAnswer count k limit x (ShownWhole k out limit x)) (λ answer. Told answer before after told code)) × ((IsDepth limit → ⊥) → IsBad before after untold told code)
ShowCall count (Some k) None limit x before after untold told code = IsBad before after untold told code
ShowCall count None out limit x before after untold told code = IsBad before after untold told code

-- no defect, or the number and the offset of the first one
abbrev pub DefectTold : Option Defect → ℕ → ℕ → Type 0
DefectTold None place code = (code ≡ 0) × (place ≡ 0)
DefectTold (Some d) place code = (code ≡ defect_number d.reason) × (place ≡ d.place)

abbrev pub CheckTold : Result (Option Defect) CountFault → ℕ → ℕ → Type 0
CheckTold (Ok defect) place code = DefectTold defect place code
CheckTold (Err why) place code = (code ≡ counted_number why) × (place ≡ counted_place why)

abbrev pub CheckCall : Count → Option KeyOrdering → ℕ → List ℕ → ℕ → ℕ → ℕ → Type 0
CheckCall count (Some order) limit x unplaced place code = (IsDepth limit → Reports (CountAnswer count kind.Wire limit x (CheckedWhole (order_of order) limit x)) (λ answer. CheckTold answer place code)) × ((IsDepth limit → ⊥) → IsBadPlaced unplaced place code)
CheckCall count None limit x unplaced place code = IsBadPlaced unplaced place code

-- a fault of the first input; or one of the second, whose number is 65,536 more; or refused memory, which is a fault of neither
abbrev pub CompareFaultTold : CompareCountFault → ℕ → ℕ → Type 0
CompareFaultTold (compared.First why) place code = (code ≡ counted_number why) × (place ≡ counted_place why)
CompareFaultTold (compared.Second why) place code = (code ≡ counted_number why + 65536) × (place ≡ counted_place why)
CompareFaultTold compared.OutOfMemory place code = (code ≡ 3) × (place ≡ 0)

-- the same items; or different ones, and the index of the first as the place
abbrev pub DifferenceTold : Option ℕ → ℕ → ℕ → Type 0
DifferenceTold None place code = (code ≡ 0) × (place ≡ 0)
DifferenceTold (Some i) place code = (code ≡ 5) × (place ≡ i)

abbrev pub CompareTold : Result (Option ℕ) CompareCountFault → ℕ → ℕ → Type 0
CompareTold (Ok difference) place code = DifferenceTold difference place code
CompareTold (Err why) place code = CompareFaultTold why place code

abbrev pub CompareCall : Option Kind → Option Kind → ℕ → List ℕ → List ℕ → ℕ → ℕ → ℕ → Type 0
CompareCall (Some k) (Some l) limit x y unplaced place code = (IsDepth limit → Reports (Compared counts.Any k l limit x y) (λ answer. CompareTold answer place code)) × ((IsDepth limit → ⊥) → IsBadPlaced unplaced place code)
CompareCall (Some k) None limit x y unplaced place code = IsBadPlaced unplaced place code
CompareCall None l limit x y unplaced place code = IsBadPlaced unplaced place code

-- the same items, or different ones, with 0 as the place
abbrev pub SameTold : Result Bool CompareCountFault → ℕ → ℕ → Type 0
SameTold (Ok true) place code = (code ≡ 0) × (place ≡ 0)
SameTold (Ok false) place code = (code ≡ 5) × (place ≡ 0)
SameTold (Err why) place code = CompareFaultTold why place code

abbrev pub SameCall : Count → Option Kind → Option Kind → ℕ → List ℕ → List ℕ → ℕ → ℕ → ℕ → Type 0
SameCall count (Some k) (Some l) limit x y unplaced place code = (IsDepth limit → Reports (Matched count k l limit x y) (λ answer. SameTold answer place code)) × ((IsDepth limit → ⊥) → IsBadPlaced unplaced place code)
SameCall count (Some k) None limit x y unplaced place code = IsBadPlaced unplaced place code
SameCall count None l limit x y unplaced place code = IsBadPlaced unplaced place code

-- ---- where an item ends

-- its end; or that there is no item, with the length of the input; or the fault
abbrev pub EndTold : Result (Option ℕ) WireFault → ℕ → ℕ → ℕ → Type 0
EndTold (Ok (Some end)) size place code = (code ≡ 0) × (place ≡ end)
EndTold (Ok None) size place code = (code ≡ 1793) × (place ≡ size)
EndTold (Err why) size place code = (code ≡ counted_number (counted.Engine (fault.Wire why))) × (place ≡ counted_place (counted.Engine (fault.Wire why)))

abbrev pub ItemEndCall : ℕ → List ℕ → ℕ → ℕ → ℕ → ℕ → Type 0
ItemEndCall limit x start unplaced place code =
    (IsDepth limit → start ≤ length x → Reports (EndsItem limit x start) (λ answer. EndTold answer (length x) place code)) × ((IsDepth limit → ⊥) → IsBadPlaced unplaced place code) × (length x < start → IsBadPlaced unplaced place code)

-- ---- words and explanations

-- the number of a fault, of a fault of a second input, or of a defect
abbrev pub HasWords : ℕ → Type 0
HasWords number = ((why : CountFault) × (counted_number why ≡ number)) ⊎ ((why : CountFault) × (counted_number why + 65536 ≡ number)) ⊎ ((reason : DefectReason) × (defect_number reason ≡ number))

-- some words, and then a zero, are in the buffer, or don't fit it. No clause says which words.
pub record WordsPut (before after : List ℕ) (code : ℕ) : Type 0 where
  pub words : List ℕ
  pub short : length words < 64
  pub put : IsPut (words ++ 0 ∷ []) before after code

abbrev pub WordsCall : ℕ → List ℕ → List ℕ → ℕ → Type 0
WordsCall number before after code = (HasWords number → WordsPut before after code) × ((HasWords number → ⊥) → (code ≡ 2) × (after ≡ before))

-- the number of a fault in the content of an input of this format
abbrev pub IsFaultOf : Kind → ℕ → Type 0
IsFaultOf k number = ((why : CountFault) × (counted_number why ≡ number)) × IsOfFormat k number

-- the number of a defect, which only bytes have
abbrev pub IsDefectOf : Kind → ℕ → Type 0
IsDefectOf kind.Wire number = (reason : DefectReason) × (defect_number reason ≡ number)
IsDefectOf kind.Notation number = ⊥
IsDefectOf kind.Notation2 number = ⊥

-- the number of a fault in the content, of such a fault of a second input, which is 65,536 more, or of a defect
abbrev pub IsExplained : Kind → ℕ → Type 0
IsExplained k number = IsFaultOf k number ⊎ ((fault : ℕ) × (fault + 65536 ≡ number) × IsFaultOf k fault) ⊎ IsDefectOf k number

-- a text is in the buffer or doesn't fit it, and its length is reported; or memory was refused and the buffer is unchanged
abbrev pub TextTold : Result (String Global) AllocError → List ℕ → List ℕ → CbornTold → ℕ → Type 0
TextTold (Ok text) before after told code = IsPut (string_bytes text) before after code × (told.length ≡ length (string_bytes text)) × (told.place ≡ 0)
TextTold (Err why) before after told code = (code ≡ 3) × (told.place ≡ 0) × (told.length ≡ 0) × (after ≡ before)

-- some text is the explanation. No clause says which.
pub record ExplainsInto (before after : List ℕ) (told : CbornTold) (code : ℕ) : Type 0 where
  pub answer : Result (String Global) AllocError
  pub put : TextTold answer before after told code

abbrev pub ExplainCall : Option Kind → ℕ → ℕ → List ℕ → List ℕ → CbornTold → CbornTold → ℕ → Type 0
ExplainCall (Some k) limit number before after untold told code =
    (IsDepth limit → IsExplained k number → ExplainsInto before after told code) × ((IsDepth limit → ⊥) → IsBad before after untold told code) × ((IsExplained k number → ⊥) → IsBad before after untold told code)
ExplainCall None limit number before after untold told code = IsBad before after untold told code

-- both inputs hold items, and some text says where they differ; or one of them is refused
abbrev pub ComparisonTold : Result Bool CompareCountFault → List ℕ → List ℕ → CbornTold → ℕ → Type 0
ComparisonTold (Ok same) before after told code = ExplainsInto before after told code
ComparisonTold (Err why) before after told code = CompareFaultTold why told.place code × (told.length ≡ 0) × (after ≡ before)

abbrev pub ComparisonCall : Option Kind → Option Kind → Option KeyOrdering → ℕ → List ℕ → List ℕ → List ℕ → List ℕ → CbornTold → CbornTold → ℕ → Type 0
ComparisonCall (Some k) (Some l) (Some order) limit x y before after untold told code =
    (IsDepth limit → Reports (Matched counts.Any k l limit x y) (λ answer. ComparisonTold answer before after told code)) × ((IsDepth limit → ⊥) → IsBad before after untold told code)
ComparisonCall (Some k) (Some l) None limit x y before after untold told code = IsBad before after untold told code
ComparisonCall (Some k) None order limit x y before after untold told code = IsBad before after untold told code
ComparisonCall None l order limit x y before after untold told code = IsBad before after untold told code
