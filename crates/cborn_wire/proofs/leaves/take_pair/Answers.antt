use Rattle.std.specs.Prelude.{◌≡◌, ◌+◌, ◌/◌}
use Rattle.cborn_wire.proofs.Common.{take, drop, refl, subst, arith, length-drop, take_rest, no_part, text_in, major_at, IsLeafOf, leaf_tree, are_bytes}
use Rattle.cborn_wire.proofs.Visiting.Leaves.{leaf_some}
use Rattle.cborn_wire.proofs.Visiting.Runs.{leaf_in, text_is, at_key, short_pair, pair_taken}
use Rattle.cborn_wire.proofs.leaves.take_pair.Goals as goal

pub returns-clause-taken : goal.returns-clause-taken
returns-clause-taken g c = λ level wants.
    let p = c.args.place in
    let x = c.args.bytes.now in
    let k = c.args.key.head in
    let n = c.args.key.end in
    let v = c.in-Some.value.head in
    let m = c.in-Some.value.end in
    let value : IsLeafOf (drop n x) v m = subst (λ y. IsLeafOf y v m) (take_rest x n) c.in-Some.ensures in (
      omega (arith, leaf_some x k n c.requires),
      omega (arith, c.requires.whole, value.whole, length-drop n x),
      λ f around held kept takes.
          let at = at_key f around level kept.0 wants in
          pair_taken x k v n m c.requires value p f (λ h. g.V.Visitor.holds c.pair.new.self h no_part) around level wants kept takes
          (c.in_ok-pair.ensures.taken c.if-not-branch.false f (leaf_in p x k n) (leaf_in (p + n) (drop n x) v m) (kept.1, takes) at
          (short_pair x k v n m c.requires value p _ (are_bytes x c.type_inv.bytes) (c.is_short.ensures c.if-not-is_short.false) (c.is_short-else-not-is_short.ensures c.if-not-is_short-2.false) refl refl
          (text_is p x c.text_in.result.now k n c.requires (c.text_in.ensures p))
          (text_is (p + n) (drop n x) c.text_in-2.result.now v m value (subst (λ y. c.text_in-2.result.now ≡ text_in (leaf_tree (p + n) (major_at (v.first / 32)) v.width v.argument (drop v.len (take m y)))) (take_rest x n) (c.text_in-2.ensures (p + n))))) held),
    )
