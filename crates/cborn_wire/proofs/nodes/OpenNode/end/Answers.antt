use Rattle.std.specs.Prelude.{◌≡◌}
use Rattle.cborn_wire.proofs.Common.{rules, sym, ap, ◌∙◌, length, Some, Pairs, entries, ended_size, within}
use Rattle.cborn_wire.specs.devices.OpenNodes.{ended}
use Rattle.cborn_wire.proofs.Building.{map_ends}
use Rattle.cborn_wire.proofs.nodes.OpenNode.end.Goals as goal

pub returns-in-Pairs : goal.returns-in-Pairs
returns-in-Pairs c = λ f.
    let h = c.in-Pairs.head in
    let es = c.in-Pairs.pairs.items in
    let many : c.ended_size-in-Pairs.result ≡ ended_size h.size h.count (length es) = search rules in
    ap (λ s. Some (Pairs h.place s (entries es))) many ∙ map_ends h.place h.size h.count es c.in-Pairs._key f ∙ sym (ap (λ k. ended (within f k)) c.in-Pairs.is)
