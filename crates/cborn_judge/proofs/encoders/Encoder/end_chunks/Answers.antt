use Rattle.std.specs.Prelude.{◌≡◌, ◌++◌}
use Rattle.cborn_judge.proofs.Common.{refl, length, ap, ◌∙◌, subst, arith, code, IsLeastHead, Replaces, head_of}
use Rattle.cborn_judge.proofs.Encoding.Ends.{contents_length, chunks_end, closes}
use Rattle.cborn_judge.proofs.encoders.Encoder.end_chunks.Goals as goal

pub returns : goal.returns
returns g c =
    let order = g.O.KeyOrder.order in
    let e = c.args.self.now.encodings in
    let l = e.innermost in
    let n = c.saturating_sub-len.result in
    let old = e.out.items in
    let new = c.end_head.new.out.items in
    let head = ap head_of c.requires in
    let d = c.in_ok-end_head.ensures in
    record {
      held = closes order c.args.self.now c.leave.new.self _ c.leave.result _ _ c.requires refl refl refl refl
          (λ ts x z ends is start inner.
          let whole = is ∙ ap (λ y. x ++ y) inner.whole in
          let many : n ≡ length inner.contents = omega (arith, c.saturating_sub-len.ensures, c.len.ensures, contents_length l.start l.content x inner.front inner.contents old whole start inner.content) in
          let (encoded, coded, end) =
          chunks_end order l.flawed l.place n l.start c.args.kind ts x inner.front inner.contents old new (omega arith) many ends whole start inner.begins c.end_head.ensures.ranges.1 inner.sound inner.contains.1 d.flawed
          (λ sound less. subst (λ h. Replaces (IsLeastHead (code h.0) n) l.start old new) head (d.set sound (ap (λ h. h.1) head) less)) in
          (encoded, coded, end, (λ p r f. f), λ sound none. c.ended_defect-defect.ensures)) c.leave.ensures.held;
    }
