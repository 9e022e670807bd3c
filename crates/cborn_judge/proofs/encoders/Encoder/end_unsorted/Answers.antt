use Rattle.std.specs.Prelude.{◌≡◌, ◌++◌, ◌+◌, ◌<◌, ◌||◌}
use Rattle.cborn_judge.proofs.Common.{refl, ℕ, Major, Option, Bool, length, take, drop, append_assoc, length-append, sym, ap, ◌∙◌, subst, is_some, code, IsLeastHead, Replaces, head_of, joined, row_entries, AreMarked, IsSound, marks_of, on_ok}
use Rattle.cborn_judge.proofs.Encoding.Ends.{ended, length_marked, flaw_found, defect_found, map_ended}
use Rattle.cborn_judge.proofs.encoders.Encoder.end_unsorted.Goals as goal
use Rattle.cborn_judge.proofs.encoders.Encoder.end_unsorted.Goals.{then-level, else-level}

pub returns : goal.returns
returns g c = record {
  held = on_ok c.leave.result (λ held f o ts free ends old.
      let order = g.O.KeyOrder.order in
      let laws = g.met.O.KeyOrder.laws in
      let e = c.args.self.now.encodings in
      let level = e.innermost in
      let s = c.args.size in
      let k = c.args.count in
      let flaw = c.in_ok-flaw.flaw in
      let marks = marks_of e.pairs in
      let n = c.count_from-len.result in
      let mid = c.arrange.new.out.items in
      let new = c.end_head.new.out.items in
      let head = ap head_of c.requires.map in
      let d = c.in_ok-end_head.ensures in
      let is_flawed : c.if-level.is_flawed ≡ (level.flawed || is_some flaw) =
      elim c.if-level.branch [
        | then-level w ↦ w.is_flawed-is ∙ w.if-level.true ∙ sym (ap (λ (b : Bool). b || is_some flaw) w.if-level.true)
        | else-level w ↦ w.is_flawed-is ∙ w.is_some-is_flawed.ensures ∙ sym (ap (λ (b : Bool). b || is_some flaw) w.if-level.false)
      ] in
      held f o ts free ends (map_ended order e _ f o ts _ s k c.requires.map ends old.0 refl refl (c.truncate.ensures ∙ c.in_ok-flaw.ensures.before)
      (λ ts x z ends is start inner.
      let h = inner.front in
      let rs = inner.contains.1 in
      let lies : e.out.items ≡ (x ++ h) ++ joined (row_entries rs) = is ∙ ap (λ w. x ++ w) (inner.whole ∙ ap (λ w. h ++ w) inner.contains.4) ∙ sym (append_assoc x h (joined (row_entries rs))) in
      let content : level.content ≡ length (x ++ h) = inner.content ∙ ap (λ i. i + length h) start ∙ sym (length-append x h) in
      let marked : AreMarked level.content rs (drop level.pairs marks) = inner.contains.3 in
      let number : n ≡ length rs = c.count_from-len.ensures ∙ length_marked level.content rs (drop level.pairs marks) marked in
      let repeat = c.in_ok-flaw.ensures.repeat (x ++ h) rs content lies marked in
      let left = ended order laws level.place s k ts rs ends inner.contains.2 level.flawed flaw x h mid new n inner.begins inner.sound repeat number
      (λ none filled. c.in_ok-flaw.ensures.arranged none (x ++ h) rs content lies marked filled) (c.in_ok-flaw.ensures.front (x ++ h) (joined (row_entries rs)) content lies)
      (λ i. d.flawed (is_flawed ∙ i) ∙ ap (λ w. take w mid) start) (λ i m j. d.known (is_flawed ∙ i) m (ap (λ w. w.1) head ∙ j))
      (λ i none l. subst (λ (w : (Major × Option ℕ) × ℕ). Replaces (IsLeastHead (code w.0.0) n) w.1 mid new) (λ t. (head t, start t)) (d.set (is_flawed ∙ i) (ap (λ w. w.1) head ∙ none) (subst (λ w. w < length mid) (sym start) l))) in (
        left.0,
        left.1,
        left.2,
        flaw_found order laws level.place s k ts rs ends inner.contains.2 flaw repeat,
        λ sound none. defect_found order laws level.place s k ts rs ends inner.contains.2 n c.ended_defect-own.result c.args.fall c.earliest-defect.result number (subst (λ b. IsSound b ts) sound inner.sound) c.ended_defect-own.ensures
            (c.requires.descent (x ++ h) rs content lies marked).1 c.earliest-defect.ensures,
      ))) old.1) c.leave.ensures.held;
}
