use Rattle.cborn_model.proofs.Common.{arith, IsProper, item_value}
use Rattle.cborn_model.proofs.Listed.Deciding.{granted, refuted, passed, failed}
use Rattle.cborn_model.proofs.Listed.Values.{height_of_item, height_of_pair}
use Rattle.cborn_model.proofs.SameItems.Comparing.{proper_item, proper_pair}
use Rattle.cborn_model.proofs.Listed.Validating.{are_proper_by_item, are_proper_by_pair, array_proper, dict_proper}
use Rattle.cborn_model.proofs.validity.+is_proper.Goals.{has_proper_pairs-then-not-is_proper-via-then-not-is_proper, has_proper_pairs-then-not-is_proper-via-else-not-is_proper+then-not-is_proper-2}
use Rattle.cborn_model.proofs.validity.+is_proper.Goals as goal

pub are_proper-is_proper-requires : goal.are_proper-is_proper-requires
are_proper-is_proper-requires t c =
    (omega (arith, height_of_item c.args.items.now c.loop-item.item-index c.item-item.result (omega arith) c.item-item.is), tt)

pub are_proper-returns-then-not-is_proper : goal.are_proper-returns-then-not-is_proper
are_proper-returns-then-not-is_proper t c =
    refuted (λ h. failed _ c.if-not-is_proper.true c.is_proper.ensures (proper_item c.args.items.now c.loop-item.item-index c.item-item.result (omega arith) c.item-item.is h.0))

pub are_proper-returns : goal.are_proper-returns
are_proper-returns t c =
    granted (are_proper_by_item c.args.items.now (λ k d h. c.loop-item.invariant k d (omega (arith, h))), omega arith)

pub has_proper_pairs-is_proper-requires : goal.has_proper_pairs-is_proper-requires
has_proper_pairs-is_proper-requires t c =
    (omega (arith, height_of_pair c.args.pairs.now c.loop-key.key-index c.loop-key-item.result (omega arith) c.loop-key-item.is), tt)

pub has_proper_pairs-is_proper-requires-else-not-is_proper : goal.has_proper_pairs-is_proper-requires-else-not-is_proper
has_proper_pairs-is_proper-requires-else-not-is_proper t c =
    (omega (arith, height_of_pair c.args.pairs.now c.loop-key.key-index c.loop-key-item.result (omega arith) c.loop-key-item.is), tt)

pub has_proper_pairs-returns-then-not-is_proper : goal.has_proper_pairs-returns-then-not-is_proper
has_proper_pairs-returns-then-not-is_proper t c =
    refuted (λ h.
    let p : IsProper (item_value c.loop-key-item.result.0) × IsProper (item_value c.loop-key-item.result.1) = proper_pair c.args.pairs.now c.loop-key.key-index c.loop-key-item.result (omega arith) c.loop-key-item.is h.0 in
    elim c.then-not-is_proper.branch [
      | has_proper_pairs-then-not-is_proper-via-then-not-is_proper w ↦ failed _ w.if-not-is_proper.true c.is_proper.ensures p.0
      | has_proper_pairs-then-not-is_proper-via-else-not-is_proper+then-not-is_proper-2 w ↦ failed _ w.if-not-is_proper-2.true w.is_proper-else-not-is_proper.ensures p.1
    ])

pub has_proper_pairs-returns : goal.has_proper_pairs-returns
has_proper_pairs-returns t c =
    granted (are_proper_by_pair c.args.pairs.now (λ k d h. c.loop-key.invariant k d (omega (arith, h))), omega arith)

pub is_proper-returns-in-Items : goal.is_proper-returns-in-Items
is_proper-returns-in-Items t c =
    rw (c.in-Items.is) (array_proper c.as_slice-in-Items.result.now c.in-Items.items c.are_proper.result c.as_slice-in-Items.ensures c.are_proper.ensures)

pub is_proper-returns-then-has_proper_pairs : goal.is_proper-returns-then-has_proper_pairs
is_proper-returns-then-has_proper_pairs t c =
    rw (c.in-Pairs.is) (dict_proper c.as_slice-pairs.result.now c.in-Pairs.pairs c.has_new_keys.result c.as_slice-pairs.ensures (passed _ c.if-has_proper_pairs.true c.has_proper_pairs.ensures) c.has_new_keys.ensures)
