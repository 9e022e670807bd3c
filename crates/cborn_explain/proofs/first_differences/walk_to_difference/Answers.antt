use Rattle.std.specs.Prelude.{◌≡◌}
use Rattle.cborn_explain.proofs.Common.{sym, ap, ◌∙◌, subst, length, take, arith, DifferFirstAt, up_to_key, LeadsToDifference, path_of}
use Rattle.cborn_explain.proofs.Walking.Differences.{differ_first, difference_led}
use Rattle.cborn_explain.proofs.first_differences.walk_to_difference.Goals.{else-common-first-via-then-common-first+else-common-second, else-common-first-via-else-common-first}
use Rattle.cborn_explain.proofs.first_differences.walk_to_difference.Goals as goal

pub returns : goal.returns
returns c =
    let x = c.args.first.now in
    let y = c.args.second.now in
    let n = c.common_len-common.result in
    let e = c.common_len-common.ensures in
    let w = c.in_ok-walk.walk in
    let k = c.len_to_key-len.result in
    let some : n ≡ length x → n ≡ length y → ⊥
    = λ h k. elim c.else-common-first.branch [
      | else-common-first-via-then-common-first+else-common-second w ↦ omega (arith, w.if-common-second.false, k)
      | else-common-first-via-else-common-first w ↦ omega (arith, w.if-common-first.false, h)
    ] in
    let differ : DifferFirstAt x y n = differ_first n x y e.ours e.theirs e.same e.differ some in
    let same = c.deref.ensures.value ∙ c.in_ok-path.ensures in
    let key : take k (path_of w.levels.items) ≡ up_to_key (path_of w.levels.items) = sym (ap (take k) same) ∙ c.len_to_key-len.ensures.path ∙ ap up_to_key same in
    let path = c.truncate.ensures.items ∙ ap (take k) c.in_ok-path.ensures in
    subst (λ p. LeadsToDifference x y p c.truncate.new.self.items) (sym c.place_of-place.ensures) (difference_led x y n w.at k w.levels.items c.truncate.new.self.items (omega arith) differ c.in_ok-walk.ensures key path)
