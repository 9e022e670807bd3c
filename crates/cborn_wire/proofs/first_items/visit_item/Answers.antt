use Rattle.cborn_wire.proofs.Common.{refl, ap, ◌∙◌, subst, [], Err, length, drop, take, inl, inr, arith, take_rest, top, no_part, ReadsItem, are_bytes}
use Rattle.std.proofs.Common.{length-drop, ◌-◌, ◌∷◌}
use Rattle.cborn_wire.proofs.Visiting.Ending.{refused_first, first_whole, first_cut, fresh_fed}
use Rattle.cborn_wire.proofs.first_items.visit_item.Goals as goal

pub read-requires-clause-fed : goal.read-requires-clause-fed
read-requires-clause-fed g c = (c.args.start, [], fresh_fed (g.V.Visitor.holds c.args.visitor.now) _ _ c.args.limit c.args.start c.new-reader.result c.requires.nothing c.new-levels.ensures c.new-reader.ensures)

pub returns-in-Ok : goal.returns-in-Ok
returns-in-Ok g c =
    let bytes = c.args.bytes.now in
    let from = c.args.start in
    let read = c.in-Ok.ensures in
    let fresh = fresh_fed (g.V.Visitor.holds c.args.visitor.now) _ _ c.args.limit from c.new-reader.result c.requires.nothing c.new-levels.ensures c.new-reader.ensures in
    first_whole c.args.limit from bytes _ (take_rest bytes from) (g.V.Visitor.holds c.read.new.visitor) c.read.new.levels.outer.items c.read.new.levels.inner c.read.new.self c.in-Ok.len c.requires.start read.within (read.limit ∙ c.new-reader.ensures.0)
    (read.fed from [] fresh) (rw read.limit (read.item refl from [] fresh))
    (read.some (omega (arith, c.if-start-bytes.false, c.requires.start, ap length (take_rest bytes from), length-drop from bytes))) (c.is_whole.ensures.whole c.if-is_whole.true)

pub returns-in-Ok-2 : goal.returns-in-Ok-2
returns-in-Ok-2 g c =
    let bytes = c.args.bytes.now in
    let from = c.args.start in
    let read = c.in-Ok.ensures in
    let fresh = fresh_fed (g.V.Visitor.holds c.args.visitor.now) _ _ c.args.limit from c.new-reader.result c.requires.nothing c.new-levels.ensures c.new-reader.ensures in
    let cut = c.is_whole.ensures.cut c.if-is_whole.false in
    rw c.at.ensures (first_cut c.args.limit from bytes _ (take_rest bytes from) (g.V.Visitor.holds c.read.new.visitor) c.read.new.levels.outer.items c.read.new.levels.inner c.read.new.self c.in-Ok.len c.requires.start read.within (read.limit ∙ c.new-reader.ensures.0)
    (read.fed from [] fresh) (rw read.limit (read.item refl from [] fresh))
    (elim (read.stops) [ inl all ↦ all | inr ends ↦ absurd (cut ends) ]) cut)

pub returns : goal.returns
returns g c =
    let bytes = c.args.bytes.now in
    let from = c.args.start in
    let fresh = fresh_fed (g.V.Visitor.holds c.args.visitor.now) _ _ c.args.limit from c.new-reader.result c.requires.nothing c.new-levels.ensures c.new-reader.ensures in
    refused_first c.args.limit from bytes _ (take_rest bytes from) (λ t. g.V.Visitor.holds c.read.new.visitor (top (t ∷ [])) no_part) c.in-Err.why (are_bytes bytes c.type_inv.bytes)
    (subst (λ k. ReadsItem k from [] (take (length bytes - from) (drop from bytes)) (Err c.in-Err.why)) c.new-reader.ensures.0 (c.in-Err.ensures.item refl from [] fresh))
