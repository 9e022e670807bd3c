use Rattle.std.specs.Prelude.{◌<◌, ◌^◌, ◌++◌}
use Rattle.cborn_judge.proofs.Common.{rules, length, ap, refl, sym, ◌∙◌, subst, puts, after_items, marks_of}
use Rattle.cborn_judge.proofs.Encoding.Leaves.{short_encoded, finds_short}
use Rattle.cborn_judge.proofs.Encoding.Standing.{stands_items, stands_same}
use Rattle.cborn_judge.proofs.encoders.EncoderVisitor.integers.Goals as goal

pub returns-clause-taken : goal.returns-clause-taken
returns-clause-taken g c = λ is f ts free at are count old.
    let order = g.O.KeyOrder.order in
    let e = c.args.self.now in
    let s = e.encodings in
    let x = c.args.spelled.now in
    let new = c.extend_from_slice.new.self.items in
    let marks = marks_of s.pairs in
    let short : length new < 2 ^ 64 = search rules in
    let out = c.in_ok-extend_from_slice.ensures.items in (
      stands_same order s.outer.items s.outer.items (after_items s.innermost (length ts)) c.add_items.new.self (puts f ts) marks marks (s.out.items ++ x) new
          refl (c.add_items.ensures ∙ ap (after_items s.innermost) (sym count)) refl out
          (stands_items order s.outer.items s.innermost f ts marks s.out.items x at (subst (λ z. length z < 2 ^ 64) out short) (short_encoded order c.args._place x ts are) old.0),
      finds_short order f c.args._place x ts e.flaw e.defect are old.1,
    )
