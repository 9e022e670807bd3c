use Rattle.cborn_edn.proofs.Common.{sym, ap, ◌∙◌, subst, Input, string, Reads, AtEnd, in_row, at_top, State}
use Rattle.cborn_edn.specs.devices.Reading.{ends_string}
use Rattle.cborn_edn.proofs.Lemmas.{on_ok, string_end, item_end, bare_end}
use Rattle.cborn_edn.proofs.passes.end_last.Goals as goal

pub returns-then-ends_string : goal.returns-then-ends_string
returns-then-ends_string g c = on_ok c.end_item.result (λ h s t last e.
    let k = string_end s t last (ap ends_string (sym e.shows.phase) ∙ sym c.ends_string.ensures ∙ c.if-ends_string.true) in
    subst (λ (u : Input). AtEnd (g.V.Visitor.holds c.end_item.new.visitor) u c.end_item.new.writer) k.3
    (item_end c.end_item.new.here c.end_item.new.writer k.0 (string k.1)
    (h (in_row at_top k.0) k.1 (subst (λ (u : State). Reads (g.V.Visitor.holds c.args.visitor.now) c.args.here c.args.writer.now c.args.writer.now.pieces.items u) (sym k.2) e)))) c.end_item.ensures

pub returns : goal.returns
returns g c = λ s t last e. bare_end c.args.here c.args.writer.now s t last (sym c.ends_string.ensures ∙ c.if-ends_string.false) e
