use Rattle.std.specs.Prelude.{◌<◌}
use Rattle.cborn_judge.proofs.Common.{◌∙◌, inl, inr, ap, sym, subst, arith, take_all, AreBytes, IsEarliest, defect_rank, hint_of, mark_of, AreHintedBy, are_bytes}
use Rattle.cborn_judge.proofs.Encoding.PairsHinted.{hint_tells, Looks, Remembers, falls_passed}
use Rattle.cborn_judge.proofs.Encoding.PairsRead.{bytes_between}
use Rattle.cborn_judge.proofs.marks.first_fall.Goals as goal
use Rattle.cborn_judge.proofs.marks.first_fall.Goals.{then-hint-last, else-hint-last, then-not-is_empty, else-not-is_empty}

pub loop-spot-preserved : goal.loop-spot-preserved
loop-spot-preserved g c =
    let order = g.O.KeyOrder.order in
    let hint = hint_of c.known-known.result in
    let b = c.args.out.now in
    let m = mark_of c.mark-mark.result in
    let key = c.key_in-key.result.now in
    let before = c.loop-spot.before.now in
    let last = c.loop-spot.last in
    let bytes : AreBytes key = subst AreBytes (sym c.key_in-key.ensures) (bytes_between b m.1 m.2 (are_bytes b c.type_inv.out)) in
    let look : Looks g.S.Spot.seen g.S.Spot.hinted b order hint before key last m.0 c.loop-spot.first c.if-hint-last.first =
    elim c.if-hint-last.branch [
      | then-hint-last w ↦ let (o, finds, is) = w.keep_fall-first.ensures in inr (o, finds, subst (λ z. IsEarliest (λ d. (d.place, defect_rank d.reason)) c.loop-spot.first o z) (sym w.first-is) is)
      | else-hint-last w ↦ inl (subst (λ n. last < n) c.hint-hint.ensures (omega (arith, w.if-hint-last.false)), w.first-is)
    ] in
    let next : Remembers g.S.Spot.seen g.S.Spot.hinted b order hint before key last c.if-not-is_empty.before.now c.if-not-is_empty.last =
    elim c.if-not-is_empty.branch [
      | then-not-is_empty w ↦ inl (sym c.is_empty.ensures ∙ w.if-not-is_empty.true, ap (λ z. z.now) w.before-is, w.last-is ∙ c.hint-hint.ensures)
      | else-not-is_empty w ↦ inr (sym c.is_empty.ensures ∙ w.if-not-is_empty.false, ap (λ z. z.now) w.before-is, w.last-is)
    ] in
    falls_passed g.S.Spot.seen g.S.Spot.hinted b order hint (hint_tells order c.known-known.result c.known-known.ensures) c.args.spots.now c.loop-spot.spots c.loop-spot.spot-index c.spot-item.result c.set_hint.new.self m before key c.if-not-is_empty.before.now last c.if-not-is_empty.last c.loop-spot.first c.if-hint-last.first
    (omega (arith, c.loop-spot-test.true, c.loop-spot.auto.spots)) c.mark-mark.ensures c.key_in-key.ensures bytes c.set_hint.ensures.kept (c.set_hint.ensures.set ∙ c.hint-hint.ensures) c.loop-spot.invariant look next

pub returns-clause-hinted : goal.returns-clause-hinted
returns-clause-hinted g c =
    let hint = hint_of c.known-known.result in
    let all = take_all c.loop-spot.spot-index c.loop-spot.spots (omega (arith, c.loop-spot-test.false)) in
    (hint, hint_tells g.O.KeyOrder.order c.known-known.result c.known-known.ensures, subst (AreHintedBy g.S.Spot.hinted g.S.Spot.seen hint c.args.out.now) all c.loop-spot.invariant.hints)
