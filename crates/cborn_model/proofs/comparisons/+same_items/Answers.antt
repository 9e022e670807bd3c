use Rattle.std.specs.Prelude.{◌≡◌, ◌↔◌}
use Rattle.cborn_model.proofs.Common.{rules, arith, List, Bool, IsTrue, item_value, Value, pairs_of, Same, HasNewKeys, HasPair, Gives}
use Rattle.cborn_model.proofs.Numbers.OneMagnitude.{equal_magnitudes}
use Rattle.cborn_model.proofs.Listed.Deciding.{granted, refuted, passed, failed}
use Rattle.cborn_model.proofs.Listed.Values.{height_of_item, height_of_pair}
use Rattle.cborn_model.proofs.SameItems.Comparing.{proper_item, proper_pair, proper_parts, same_by_item, same_item, same_length, all_have_by_pair, has_at, new_by_pair, gives_at, pairs, one_more_had, given_last, given_first, new_to_all, same_size, had, maps_match}
use Rattle.cborn_model.proofs.SameItems.Sameness.{same_itself}
use Rattle.cborn_model.proofs.SameItems.Matching.{not_new, given_has, given_only}
use Rattle.cborn_model.proofs.comparisons.+same_items.Goals as goal

pub same_items-returns-then-negative-other_negative : goal.same_items-returns-then-negative-other_negative
same_items-returns-then-negative-other_negative t c =
    let first = rw c.in-Int-Int.is-0 at c.requires.first in
    let second = rw c.in-Int-Int.is-1 at c.requires.second in
    let m = c.in-Int-Int.magnitude in
    let n = c.in-Int-Int.other_magnitude in
    let f : IsTrue c.eq.result ↔ m ≡ n = search rules in
    let same = equal_magnitudes m n c.eq.result f c.as_slice.ensures.bytes c.as_slice-then-negative-other_negative.ensures.bytes first.1 second.1 in
    let e = c.if-negative-other_negative.true in
    rw (c.in-Int-Int.is-0, c.in-Int-Int.is-1) (grind (arith, same))

pub same_arrays-returns-then-a-b : goal.same_arrays-returns-then-a-b
same_arrays-returns-then-a-b t c = refuted (λ h. c.if-a-b.true (same_length c.args.a.now c.args.b.now h))

pub same_arrays-same_items-requires : goal.same_arrays-same_items-requires
same_arrays-same_items-requires t c =
    (omega (arith, height_of_item c.args.a.now c.loop-i.i c.index-a-i.result (omega arith) c.index-a-i.is), (proper_item c.args.a.now c.loop-i.i c.index-a-i.result (omega arith) c.index-a-i.is c.requires.first, proper_item c.args.b.now c.loop-i.i c.index-b-i.result (omega arith) c.index-b-i.is c.requires.second))

pub same_arrays-returns-then-not-same_items : goal.same_arrays-returns-then-not-same_items
same_arrays-returns-then-not-same_items t c =
    refuted (λ h. failed _ c.if-not-same_items.true c.same_items.ensures (same_item c.args.a.now c.args.b.now c.loop-i.i c.index-a-i.result c.index-b-i.result (omega arith) (omega arith) c.index-a-i.is c.index-b-i.is h))

pub same_arrays-returns : goal.same_arrays-returns
same_arrays-returns t c =
    granted (same_by_item c.args.a.now c.args.b.now (omega arith) (λ k d h. c.loop-i.invariant k d (omega (arith, h))))

pub same_maps-returns-then-a-b : goal.same_maps-returns-then-a-b
same_maps-returns-then-a-b t c = refuted (λ h. c.if-a-b.true (same_size c.args.a.now c.args.b.now h))

pub same_maps-has_pair-requires : goal.same_maps-has_pair-requires
same_maps-has_pair-requires t c =
    let p = proper_pair c.args.a.now c.loop-i.i c.index-a-i.result (omega arith) c.index-a-i.is c.requires.first in
    (omega (arith, height_of_pair c.args.a.now c.loop-i.i c.index-a-i.result (omega arith) c.index-a-i.is), (omega arith, (p.0, (p.1, (c.requires.second, c.requires.second_keys)))))

pub same_maps-returns-then-not-has_pair : goal.same_maps-returns-then-not-has_pair
same_maps-returns-then-not-has_pair t c =
    refuted (λ h. failed _ c.if-not-has_pair.true c.has_pair.ensures (has_at c.args.a.now _ c.loop-i.i c.index-a-i.result (omega arith) c.index-a-i.is (had c.args.a.now c.args.b.now h)))

pub same_maps-loop-i-preserved : goal.same_maps-loop-i-preserved
same_maps-loop-i-preserved t c =
    one_more_had c.args.a.now _ c.loop-i.i c.index-a-i.result (omega arith) c.index-a-i.is (passed _ c.if-not-has_pair.false c.has_pair.ensures) c.loop-i.invariant

pub same_maps-returns : goal.same_maps-returns
same_maps-returns t c =
    granted (maps_match c.args.a.now c.args.b.now (omega arith) c.requires.first_keys (all_have_by_pair c.args.a.now _ (λ k d h. c.loop-i.invariant k d (omega (arith, h)))))

pub has_pair-value_of-requires : goal.has_pair-value_of-requires
has_pair-value_of-requires t c =
    let parts = proper_parts c.split_at.result.0.now c.split_at.result.1.now (rw c.split_at.ensures.by_index.0 at c.requires.pairs) in
    (omega arith, (c.requires.key, parts.1))

pub has_pair-value_of-requires-in-None : goal.has_pair-value_of-requires-in-None
has_pair-value_of-requires-in-None t c =
    let parts = proper_parts c.split_at.result.0.now c.split_at.result.1.now (rw c.split_at.ensures.by_index.0 at c.requires.pairs) in
    (omega arith, (c.requires.key, parts.0))

-- the value that is given at the key decides
decided : (r : Bool) (k v w : Value) (ps : List (Value × Value)) → HasNewKeys (pairs_of ps) → Gives k w ps → (IsTrue r ↔ Same v w) → (IsTrue r ↔ HasPair (k, v) ps)
decided r k v w ps new given f = (λ y. given_has k v w ps given (f.0 y), λ h. f.1 (given_only k v w ps new given h))

pub has_pair-returns-in-Some : goal.has_pair-returns-in-Some
has_pair-returns-in-Some t c =
    decided _ _ _ _ (pairs c.args.pairs.now) c.requires.keys (given_last _ _ c.args.pairs.now _ _ c.split_at.ensures.by_index.0 c.in-Some.ensures.0) c.same_items.ensures

pub has_pair-returns-in-Some-value_of : goal.has_pair-returns-in-Some-value_of
has_pair-returns-in-Some-value_of t c =
    decided _ _ _ _ (pairs c.args.pairs.now) c.requires.keys (given_first _ _ c.args.pairs.now _ _ c.split_at.ensures.by_index.0 c.in-Some-value_of.ensures.0) c.same_items-in-Some-value_of.ensures

pub has_pair-returns-in-None-value_of : goal.has_pair-returns-in-None-value_of
has_pair-returns-in-None-value_of t c =
    let k = item_value c.args.key.now in
    refuted (λ h. not_new k k (item_value c.args.value.now) (pairs c.args.pairs.now) (new_to_all k c.args.pairs.now _ _ c.split_at.ensures.by_index.0 c.in-None-value_of.ensures c.in-None.ensures) (same_itself k) h)

pub value_of-same_items-requires : goal.value_of-same_items-requires
value_of-same_items-requires t c =
    (omega arith, (c.requires.key, (proper_pair c.args.pairs.now c.loop-pair.pair-index c.pair-item.result (omega arith) c.pair-item.is c.requires.pairs).0))

pub value_of-returns-then-same_items : goal.value_of-returns-then-same_items
value_of-returns-then-same_items t c =
    (gives_at _ c.args.pairs.now c.loop-pair.pair-index c.pair-item.result (omega arith) c.pair-item.is (passed _ c.if-same_items.true c.same_items.ensures), (proper_pair c.args.pairs.now c.loop-pair.pair-index c.pair-item.result (omega arith) c.pair-item.is c.requires.pairs).1)

pub value_of-returns : goal.value_of-returns
value_of-returns t c =
    new_by_pair _ c.args.pairs.now (λ k d h. c.loop-pair.invariant k d (omega (arith, h)))
