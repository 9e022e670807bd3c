use Rattle.std.specs.Prelude.{◌≡◌, ◌++◌, ◌+◌, ◌<◌}
use Rattle.cborn_judge.proofs.Common.{ℕ, Major, Option, length, drop, append_assoc, length-append, refl, sym, ap, ◌∙◌, subst, false, true≢false, None, code, IsLeastHead, defect_rank, Replaces, head_of, joined, row_entries, IsSound, marks_of, on_ok}
use Rattle.cborn_judge.proofs.Encoding.Ends.{ended, length_marked, flaw_found, defect_found, map_ended}
use Rattle.cborn_judge.proofs.Encoding.MapsRows.{rising_new, as_they_stand}
use Rattle.cborn_judge.proofs.Encoding.PairsHinted.{none_first}
use Rattle.cborn_judge.proofs.encoders.Encoder.end_rising.Goals as goal

pub returns : goal.returns
returns g c = record {
  held = on_ok c.leave.result (λ held f o ts free ends old.
      let order = g.O.KeyOrder.order in
      let laws = g.met.O.KeyOrder.laws in
      let e = c.args.self.now.encodings in
      let l = e.innermost in
      let s = c.args.size in
      let k = c.args.count in
      let n = c.count_from-len.result in
      let own = drop l.pairs (marks_of e.pairs) in
      let new = c.end_head.new.out.items in
      let head = ap head_of c.requires.map in
      let d = c.in_ok-end_head.ensures in
      held f o ts free ends (map_ended order e _ f o ts _ s k c.requires.map ends old.0 refl refl c.truncate.ensures
      (λ ts x z ends is start inner.
      let h = inner.front in
      let rs = inner.contains.1 in
      let rows = inner.contains.2 in
      let lies : e.out.items ≡ (x ++ h) ++ joined (row_entries rs) = is ∙ ap (λ w. x ++ w) (inner.whole ∙ ap (λ w. h ++ w) inner.contains.4) ∙ sym (append_assoc x h (joined (row_entries rs))) in
      let content : l.content ≡ length (x ++ h) = inner.content ∙ ap (λ i. i + length h) start ∙ sym (length-append x h) in
      let sound = subst (λ b. IsSound b ts) c.requires.sound inner.sound in
      let found = c.requires.rising (x ++ h) rs content lies inner.contains.3 in
      let rising = found.0 refl in
      let number : n ≡ length rs = c.count_from-len.ensures ∙ length_marked l.content rs own inner.contains.3 in
      let defect = c.ended_defect-defect.result in
      let (encoded, coded, whole) =
      ended order laws l.place s k ts rs ends rows false None x h e.out.items new n inner.begins sound (λ q r t. rising_new order laws rs q rising t.1) number (λ e filled. (joined (row_entries rs), as_they_stand order rs filled rising, lies)) (joined (row_entries rs), lies)
      (λ e. absurd (true≢false (sym e))) (λ i m j. d.known refl m (ap (λ z. z.1) head ∙ j))
      (λ i j less. subst (λ (w : (Major × Option ℕ) × ℕ). Replaces (IsLeastHead (code w.0.0) n) w.1 e.out.items new) (λ t. (head t, start t)) (d.set refl (ap (λ z. z.1) head ∙ j) (subst (λ w. w < length e.out.items) (sym start) less))) in (
        encoded,
        coded,
        whole,
        flaw_found order laws l.place s k ts rs ends rows None (λ q r t. rising_new order laws rs q rising t.1),
        λ b j. defect_found order laws l.place s k ts rs ends rows n defect None defect number sound c.ended_defect-defect.ensures found.1 (none_first (λ z. (z.place, defect_rank z.reason)) defect),
      ))) old.1) c.leave.ensures.held;
}
