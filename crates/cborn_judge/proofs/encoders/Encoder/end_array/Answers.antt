use Rattle.std.specs.Prelude.{◌<◌, ◌^◌, ◌++◌}
use Rattle.cborn_judge.proofs.Common.{refl, length, ap, ◌∙◌, subst, code, IsLeastHead, Replaces, ended_size, head_of, FindsDefect, SizeAt}
use Rattle.cborn_judge.proofs.Encoding.Ends.{array_ends, closes}
use Rattle.cborn_judge.proofs.encoders.Encoder.end_array.Goals as goal

pub returns : goal.returns
returns g c =
    let order = g.O.KeyOrder.order in
    let e = c.args.self.now.encodings in
    let l = e.innermost in
    let size = c.args.size in
    let count = c.args.count in
    let new = c.end_head.new.out.items in
    let fits : l.count < 2 ^ 64 = c.end_head.ensures.ranges.0 in
    let head = ap head_of c.requires in
    let d = c.in_ok-end_head.ensures in
    record {
      held = closes order c.args.self.now c.leave.new.self _ c.leave.result _ _ c.requires refl refl refl refl
          (λ ts x z ends is start inner.
          let (encoded, coded, whole) =
          array_ends order l.flawed l.place l.count l.start count (ended_size size count (length ts)) ts x inner.front inner.contents e.out.items new fits ends
          (is ∙ ap (λ y. x ++ y) inner.whole) start inner.begins inner.sound inner.contains.1 d.flawed (λ f m i. d.known f m (ap (λ h. h.1) head ∙ i))
          (λ f i less. subst (λ h. Replaces (IsLeastHead (code h.0) l.count) l.start e.out.items new) head (d.set f (ap (λ h. h.1) head ∙ i) less)) in (
            encoded,
            coded,
            whole,
            (λ p r f. f),
            λ sound none. subst (λ m. FindsDefect (SizeAt l.place (ended_size size count m) m) c.ended_defect-defect.result) (inner.contains.1 sound).1 c.ended_defect-defect.ensures,
          )) c.leave.ensures.held;
    }
