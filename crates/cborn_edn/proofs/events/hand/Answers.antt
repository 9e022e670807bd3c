use Rattle.cborn_edn.proofs.Common.{sym, arith, are_bytes}
use Rattle.cborn_edn.proofs.Lemmas.{on_ok, outside, inside}
use Rattle.cborn_edn.proofs.events.hand.Goals as goal

pub returns-then-is_empty : goal.returns-then-is_empty
returns-then-is_empty g c = on_ok c.hand_to.result (λ f s u ss e hands t. outside (g.V.Visitor.holds c.args.visitor.now) (g.V.Visitor.holds c.hand_to.new.visitor) c.args.event c.args.place c.args.content.now s u c.args.spellers.now ss (sym c.if-is_empty.ensures) (c.requires (sym c.if-not-is_none.ensures), are_bytes c.args.content.now c.type_inv.content, omega arith) f hands t) c.hand_to.ensures

pub returns : goal.returns
returns g c = on_ok c.hand_inside.result (λ step s u ss e hands t. inside (g.V.Visitor.holds c.args.visitor.now) c.args.event c.args.place c.args.content.now s u c.args.spellers.now c.hand_inside.new.spellers ss (sym c.if-is_empty.ensures) (c.requires (sym c.if-not-is_none.ensures), are_bytes c.args.content.now c.type_inv.content, omega arith) step hands t) c.hand_inside.ensures
