use Rattle.cborn_explain.proofs.Common.{refl, sym, ap, ◌∙◌, subst, [], unwrap_or, IsHeld, IsWalked}
use Rattle.cborn_model.proofs.Bytes.{are_bytes}
use Rattle.cborn_wire.proofs.Visiting.Ending.{fresh_fed}
use Rattle.cborn_explain.proofs.Walking.Whole.{read_to}
use Rattle.cborn_explain.proofs.byte_walks.Walk.to.Goals as goal

pub read-requires-clause-fed : goal.read-requires-clause-fed
read-requires-clause-fed c = (0, [], fresh_fed (IsHeld c.new-parts.result) _ _ 1024 0 c.new-reader.result c.new-parts.ensures c.new-levels.ensures c.new-reader.ensures)

pub returns : goal.returns
returns c =
    let fresh = fresh_fed (IsHeld c.new-parts.result) _ _ 1024 0 c.new-reader.result c.new-parts.ensures c.new-levels.ensures c.new-reader.ensures in
    let read = c.read.ensures in
    let there = c.unwrap_or-at.ensures ∙ ap (unwrap_or c.read.new.visitor.string) c.next_head.ensures in
    subst (IsWalked c.args.bytes.now c.args.place c.unwrap_or-at.result) (sym c.in_ok-levels.ensures)
    (read_to c.args.bytes.now c.args.place c.requires (are_bytes c.args.bytes.now c.type_inv.bytes) c.read.new.visitor c.read.new.levels.outer.items c.read.new.levels.inner c.read.new.self c.unwrap_or-at.result c.read.result
    (read.fed 0 [] fresh) c.in_ok-had_memory.ensures (read.end refl) (read.limit ∙ c.new-reader.ensures.0) there)
