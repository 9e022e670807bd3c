use Rattle.std.specs.Prelude.{◌∷◌, ◌-◌}
use Rattle.cborn_wire.proofs.Common.{List, ap, arith, set, [], length-append, length, vec_len, false≢true, OpenSpelling}
use Rattle.cborn_wire.proofs.Standing.{one_more, node_counted, last_counted}
use Rattle.cborn_wire.proofs.spellers.Speller.count.Goals as goal

pub returns-in-Some : goal.returns-in-Some
returns-in-Some c = λ f t.
    let open_now = c.args.self.now.containers in
    let last = c.in-Some.innermost.now in
    let n = vec_len open_now in
    let counted = λ (l : List OpenSpelling). set l (n - 1) (one_more last) in
    node_counted c.args.self.now (counted open_now.items) f t
    (λ outer k e. last_counted open_now.items outer k last n (omega (arith, open_now.ok.0)) c.in-Some.ensures.value e)
    (λ none. ap counted none)

pub returns-in_default : goal.returns-in_default
returns-in_default c = λ f t.
    let open_now = c.args.self.now.containers in
    node_counted c.args.self.now open_now.items f t
    (λ outer k e. absurd (false≢true (c.in_default.ensures.variant.1 (omega (arith, ap length e, length-append outer (k ∷ []), open_now.ok.0)))))
    (λ none. none)
