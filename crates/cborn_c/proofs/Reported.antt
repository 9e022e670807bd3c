-- What a call from C answers whose numbers mean something.
use Rattle.std.specs.Prelude.{◌≡◌, Result}
use Rattle.std.proofs.Common.{ℕ, List, Option, Some, subst}
use Rattle.std.specs.Global.{Global}
use Rattle.std.specs.declared.borrow.CowSlice.{CowSlice}
use Rattle.cborn_engine.specs.declared.count_faults.CountFault.{CountFault}
use Rattle.cborn_engine.specs.declared.counts.Count.{Count}
use Rattle.cborn_engine.specs.declared.kinds.Kind.{Kind}
use Rattle.cborn_engine.specs.Counts.{CountAnswer, NormalisedWhole}
use Rattle.cborn_c.specs.declared.answers.CbornTold.{CbornTold}
use Rattle.cborn_c.specs.declared.numbers.KeyOrdering.{KeyOrdering}
use Rattle.cborn_c.specs.Numbers.{order_of}
use Rattle.cborn_c.specs.Calls.{IsDepth, NormaliseCall, Reports, Told}

pub normalised : (count : Count) (k l : Kind) (order : KeyOrdering) (a b : Option Kind) (o : Option KeyOrdering) (depth limit : ℕ) (x before after : List ℕ) (untold told : CbornTold) (code : ℕ) (answer : Result (CowSlice ℕ Global) CountFault)
    → Some k ≡ a → Some l ≡ b → Some order ≡ o → IsDepth depth × (limit ≡ depth) → CountAnswer count k limit x (NormalisedWhole (order_of order) k l limit x) answer → Told answer before after told code → NormaliseCall count a b o depth x before after untold told code
normalised count k l order a b o depth limit x before after untold told code answer from to by is right put =
    let Into : ℕ → Type 0 = λ n. Reports (CountAnswer count k n x (NormalisedWhole (order_of order) k l n x)) (λ answer. Told answer before after told code) in
    let Call : Option Kind → Option Kind → Option KeyOrdering → Type 0 = λ a b o. NormaliseCall count a b o depth x before after untold told code in
    subst (λ a. Call a b o) from (subst (λ b. Call (Some k) b o) to (subst (λ o. Call (Some k) (Some l) o) by (λ d. subst Into is.1 (answer, right, put), λ h. absurd (h is.0))))
