use Rattle.cborn_wire.proofs.Common.{sym, ap, ◌∙◌, Feeding, open_in, seen_nodes, pending}
use Rattle.cborn_wire.proofs.Feeding.FeederLaws.{taken, is_fed}
use Rattle.cborn_wire.proofs.feeders.Feeder.take.Goals as goal

pub invariant_of-self : goal.invariant_of-self
invariant_of-self c = λ none.
    let f = c.self.inside in
    let r = f.reader in
    let (made, (base, reached), at) = c.self.invariant none in
    (made, taken r.heads.limit base r.heads.at c.pop_front.result f.ready.items c.pop_front.new.self.items (open_in (seen_nodes r.nodes)) (pending r.heads.head r.nodes.string) c.pop_front.ensures.items reached, at)

pub returns-clause-fed : goal.returns-clause-fed
returns-clause-fed c = λ none.
    let f = c.self.inside in
    let r = f.reader in
    let left = c.pop_front.new.self.items in
    let os = open_in (seen_nodes r.nodes) in
    let q = pending r.heads.head r.nodes.string in
    let (made, (base, reached), at) = c.self.invariant (ap (λ (g : Feeding). g.fault) c.self.view_is ∙ none) in
    let (later, still) = taken r.heads.limit base r.heads.at c.pop_front.result f.ready.items left os q c.pop_front.ensures.items reached in
    is_fed r.heads.limit later r.heads.at f.fed left os q still (sym at) f.fault
