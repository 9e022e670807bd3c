use Rattle.cborn_judge.proofs.Common.{ℕ, List, drop, sym, ap, ◌∙◌, subst, not, Option, inside, Mark, FindsDescent, Stands, on_ok}
use Rattle.cborn_judge.specs.declared.defects.Defect.{Defect}
use Rattle.cborn_judge.proofs.Encoding.PairsMet.{none_of}
use Rattle.cborn_judge.proofs.encoders.Encoder.end_map.Goals as goal

pub end_rising-requires-clause-rising : goal.end_rising-requires-clause-rising
end_rising-requires-clause-rising g c =
    let e = c.args.self.now.encodings in
    let kept = sym c.descent-descent.ensures.kept in
    let none = none_of c.descent-descent.result (c.is_none.ensures ∙ ap not c.if-is_none.true) in
    subst (λ (v : List Mark × List ℕ × Option Defect). FindsDescent g.O.KeyOrder.order e.innermost.content (drop e.innermost.pairs v.0) v.1 v.2) (λ i. (kept i, c.deref.ensures.value i, none i)) (c.descent-descent.ensures.found e.innermost.content)

pub returns-then-is_none : goal.returns-then-is_none
returns-then-is_none g c =
    let e = c.args.self.now.encodings in
    record { held = on_ok c.end_rising.result (λ held f o ts free ends old. held f o ts free ends (subst (λ (ms : List Mark). Stands g.O.KeyOrder.order e.outer.items e.innermost (inside f o ts) ms e.out.items) (sym c.descent-descent.ensures.kept) old.0, old.1)) c.end_rising.ensures.held }

pub end_unsorted-requires-clause-descent : goal.end_unsorted-requires-clause-descent
end_unsorted-requires-clause-descent g c =
    let e = c.args.self.now.encodings in
    let kept = sym c.descent-descent.ensures.kept in
    subst (λ (v : List Mark × List ℕ). FindsDescent g.O.KeyOrder.order e.innermost.content (drop e.innermost.pairs v.0) v.1 c.descent-descent.result) (λ i. (kept i, c.deref.ensures.value i)) (c.descent-descent.ensures.found e.innermost.content)

pub returns : goal.returns
returns g c =
    let e = c.args.self.now.encodings in
    record { held = on_ok c.end_unsorted.result (λ held f o ts free ends old. held f o ts free ends (subst (λ (ms : List Mark). Stands g.O.KeyOrder.order e.outer.items e.innermost (inside f o ts) ms e.out.items) (sym c.descent-descent.ensures.kept) old.0, old.1)) c.end_unsorted.ensures.held }
