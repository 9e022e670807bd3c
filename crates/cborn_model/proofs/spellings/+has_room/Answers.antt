use Rattle.cborn_model.proofs.Common.{rules, arith}
use Rattle.cborn_model.proofs.Listed.Deciding.{granted, refuted, passed, failed}
use Rattle.cborn_model.proofs.Listed.Fitting.{items_and_size, entries_and_size, items_without_size, entries_without_size, all_fit, fits_at, PairFits, pairs_fit, pair_fits_at}
use Rattle.cborn_model.proofs.Listed.Trees.{depth_of_item, depth_of_pair}
use Rattle.cborn_model.proofs.spellings.+has_room.Goals.{pairs_have_room-then-not-has_room-via-then-not-has_room, pairs_have_room-then-not-has_room-via-else-not-has_room+then-not-has_room-2}
use Rattle.cborn_model.proofs.spellings.+has_room.Goals as goal

pub has_room-returns-then-size_fits : goal.has_room-returns-then-size_fits
has_room-returns-then-size_fits t c =
    let f = c.items_have_room.ensures in
    rw (← c.node.view_is, c.in-Items.is) (items_and_size c.node.inside.place c.in-Items.size c.len.result c.in-Items.items.items c.items_have_room.result (search rules) (passed _ c.if-size_fits.true c.size_fits.ensures) (rw c.deref.ensures.value at f))

pub has_room-returns-else-size_fits : goal.has_room-returns-else-size_fits
has_room-returns-else-size_fits t c =
    rw (← c.node.view_is, c.in-Items.is) (items_without_size c.node.inside.place c.in-Items.size c.len.result c.in-Items.items.items c.size_fits.result (search rules) c.if-size_fits.false c.size_fits.ensures)

pub has_room-returns-then-size_fits-2 : goal.has_room-returns-then-size_fits-2
has_room-returns-then-size_fits-2 t c =
    let f = c.pairs_have_room.ensures in
    rw (← c.node.view_is, c.in-Pairs.is) (entries_and_size c.node.inside.place c.in-Pairs.size c.len-in-Pairs.result c.in-Pairs.pairs.items c.pairs_have_room.result (search rules) (passed _ c.if-size_fits-2.true c.size_fits-in-Pairs.ensures) (rw c.deref-then-size_fits-2.ensures.value at f))

pub has_room-returns-else-size_fits-2 : goal.has_room-returns-else-size_fits-2
has_room-returns-else-size_fits-2 t c =
    rw (← c.node.view_is, c.in-Pairs.is) (entries_without_size c.node.inside.place c.in-Pairs.size c.len-in-Pairs.result c.in-Pairs.pairs.items c.size_fits-in-Pairs.result (search rules) c.if-size_fits-2.false c.size_fits-in-Pairs.ensures)

pub items_have_room-has_room-requires : goal.items_have_room-has_room-requires
items_have_room-has_room-requires t c =
    (omega (arith, depth_of_item c.args.items.now c.loop-item.item-index c.item-item.result (omega arith) c.item-item.is), tt)

pub items_have_room-returns-then-not-has_room : goal.items_have_room-returns-then-not-has_room
items_have_room-returns-then-not-has_room t c =
    refuted (λ h. failed _ c.if-not-has_room.true c.has_room.ensures (fits_at c.args.items.now c.loop-item.item-index c.item-item.result (omega arith) c.item-item.is h))

pub items_have_room-returns : goal.items_have_room-returns
items_have_room-returns t c = granted (all_fit _ (λ k d h. c.loop-item.invariant k d (omega (arith, h))))

pub pairs_have_room-has_room-requires : goal.pairs_have_room-has_room-requires
pairs_have_room-has_room-requires t c =
    (omega (arith, depth_of_pair c.args.pairs.now c.loop-key.key-index c.loop-key-item.result (omega arith) c.loop-key-item.is), tt)

pub pairs_have_room-has_room-requires-else-not-has_room : goal.pairs_have_room-has_room-requires-else-not-has_room
pairs_have_room-has_room-requires-else-not-has_room t c =
    (omega (arith, depth_of_pair c.args.pairs.now c.loop-key.key-index c.loop-key-item.result (omega arith) c.loop-key-item.is), tt)

pub pairs_have_room-returns-then-not-has_room : goal.pairs_have_room-returns-then-not-has_room
pairs_have_room-returns-then-not-has_room t c =
    refuted (λ h.
    let p : PairFits c.loop-key-item.result = pair_fits_at c.args.pairs.now c.loop-key.key-index c.loop-key-item.result (omega arith) c.loop-key-item.is h in
    elim c.then-not-has_room.branch [
      | pairs_have_room-then-not-has_room-via-then-not-has_room w ↦ failed _ w.if-not-has_room.true c.has_room.ensures p.0
      | pairs_have_room-then-not-has_room-via-else-not-has_room+then-not-has_room-2 w ↦ failed _ w.if-not-has_room-2.true w.has_room-else-not-has_room.ensures p.1
    ])

pub pairs_have_room-returns : goal.pairs_have_room-returns
pairs_have_room-returns t c = granted (pairs_fit _ (λ k d h. c.loop-key.invariant k d (omega (arith, h))))
