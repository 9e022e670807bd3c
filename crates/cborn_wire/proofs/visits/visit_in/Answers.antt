use Rattle.std.specs.Prelude.{◌≡◌}
use Rattle.cborn_wire.proofs.Common.{refl, ◌∙◌, [], length, Truncated, are_bytes}
use Rattle.cborn_wire.proofs.Visiting.Ending.{fresh_fed, whole_piece, cut_piece, refused_piece}
use Rattle.cborn_wire.proofs.visits.visit_in.Goals as goal

pub read-requires-clause-fed : goal.read-requires-clause-fed
read-requires-clause-fed g c = (0, [], fresh_fed (g.V.Visitor.holds c.args.visitor.now) _ _ c.args.limit 0 c.new-reader.result c.requires.nothing c.requires.levels c.new-reader.ensures)

pub returns-in-Ok-clause-items : goal.returns-in-Ok-clause-items
returns-in-Ok-clause-items g c =
    let fresh = fresh_fed (g.V.Visitor.holds c.args.visitor.now) _ _ c.args.limit 0 c.new-reader.result c.requires.nothing c.requires.levels c.new-reader.ensures in
    let read = c.in-Ok.ensures in
    whole_piece (g.V.Visitor.holds c.read.new.visitor) _ _ c.read.new.self c.args.limit c.args.bytes.now (read.limit ∙ c.new-reader.ensures.0) c.in-Ok.field-0 (read.end refl) (read.fed 0 [] fresh) (c.if-is_whole.ensures.whole refl)

pub returns-in-Ok-2-clause-fault : goal.returns-in-Ok-2-clause-fault
returns-in-Ok-2-clause-fault g c = λ p r said.
    let fresh = fresh_fed (g.V.Visitor.holds c.args.visitor.now) _ _ c.args.limit 0 c.new-reader.result c.requires.nothing c.requires.levels c.new-reader.ensures in
    let read = c.in-Ok-2.ensures in
    let at : p ≡ length c.args.bytes.now = cc in
    let why : r ≡ Truncated = cc in
    rw (at, why) (cut_piece (g.V.Visitor.holds c.read.new.visitor) _ _ c.read.new.self c.args.limit c.args.bytes.now (read.limit ∙ c.new-reader.ensures.0) c.in-Ok-2.field-0 (read.end refl) (read.fed 0 [] fresh) (c.if-is_whole.ensures.cut refl))

pub returns-in-Err-clause-fault : goal.returns-in-Err-clause-fault
returns-in-Err-clause-fault g c = λ p r said.
    let fresh = fresh_fed (g.V.Visitor.holds c.args.visitor.now) _ _ c.args.limit 0 c.new-reader.result c.requires.nothing c.requires.levels c.new-reader.ensures in
    let read = c.in-Err.ensures in
    refused_piece (g.V.Visitor.holds c.read.new.visitor) _ _ c.read.new.self c.args.limit c.args.bytes.now (read.limit ∙ c.new-reader.ensures.0)
    (are_bytes c.args.bytes.now c.type_inv.bytes) c.in-Err.fault (read.fed 0 [] fresh) p r cc
