use Rattle.cborn_wire.proofs.Common.{sym, ap, ◌∙◌, subst, length, Err, trees, Wellformed, Truncated, Fault, Feeding, open_in, seen_nodes, pending}
use Rattle.cborn_wire.specs.declared.faults.WireFault.TheVariants.{Refused}
use Rattle.cborn_wire.proofs.Feeding.FeederLaws.{feeds_cut, whole}
use Rattle.cborn_wire.proofs.Feeding.ItemSteps.{may_end, none_open}
use Rattle.cborn_wire.proofs.feeders.Feeder.finish.Goals as goal

pub returns-then-not-is_whole-clause-cut : goal.returns-then-not-is_whole-clause-cut
returns-then-not-is_whole-clause-cut c = λ none.
    let f = c.self.inside in
    let r = f.reader in
    let (made, (base, reached), at) = c.self.invariant (ap (λ (g : Feeding). g.fault) c.self.view_is ∙ none) in
    let cut = feeds_cut r.heads.limit base r.heads.at (trees f.ready.items) (open_in (seen_nodes r.nodes)) (pending r.heads.head r.nodes.string) reached (λ none still. c.is_whole.ensures.cut c.if-not-is_whole.true (may_end r made none still)) in
    (ap (λ (g : Feeding). Err (Refused g.fed Truncated)) c.self.view_is, subst (λ (g : Feeding). Fault g.limit g.held (length g.held) Truncated) c.self.view_is cut)

pub returns-clause-items : goal.returns-clause-items
returns-clause-items c = λ none.
    let f = c.self.inside in
    let r = f.reader in
    let (made, (base, reached), at) = c.self.invariant (ap (λ (g : Feeding). g.fault) c.self.view_is ∙ none) in
    let w = none_open r made (c.is_whole.ensures.whole c.if-not-is_whole.false) in (
      c.into_vec.ensures.items ∙ ap (λ (g : Feeding). g.items) c.self.view_is,
      subst (λ (g : Feeding). Wellformed g.limit (trees g.items) g.held) c.self.view_is (whole r.heads.limit base r.heads.at f.fed f.ready.items (open_in (seen_nodes r.nodes)) (pending r.heads.head r.nodes.string) reached (sym at) w.0 w.1),
    )
