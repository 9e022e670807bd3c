use Rattle.std.specs.Prelude.{◌≡◌, ◌++◌, ◌∷◌, ◌-◌}
use Rattle.cborn_judge.proofs.Common.{ℕ, List, [], OnOk, sym, ap, ◌∙◌, subst, map-set_same, Mark, narrow_of, marks_of, all_marks}
use Rattle.cborn_judge.proofs.Encoding.PairsRead.{last_read, last_written}
use Rattle.cborn_judge.proofs.pairs.Pairs.set_end.Goals as goal
use Rattle.cborn_judge.proofs.pairs.Pairs.set_end.Goals.{in-Narrow+in-Some+else-set_end, in-Narrow+in_default-last_mut, in_default}

pub returns-then-set_end : goal.returns-then-set_end
returns-then-set_end c ms p s m e h =
    let xs = c.in-Narrow.narrow.items in
    let n : ℕ = c.in-Narrow.narrow.len in
    let marked = sym (ap all_marks c.in-Narrow.is) ∙ h in
    let old = ap narrow_of c.in-Some.ensures.value ∙ last_read narrow_of xs n ms (p, s, m, e) c.in-Narrow.narrow.ok.0 marked c.in-Some.last.now in
    last_written narrow_of xs n ms (p, s, m, e) c.in-Narrow.narrow.ok.0 marked c.set_end.new.self (p, s, m, c.args.end) (c.set_end.ensures.set c.if-set_end.true p s m e old)

pub returns : goal.returns
returns c =
    let same : marks_of c.match-self.self ≡ marks_of c.args.self.now =
    elim c.match-self.branch [
      | in-Narrow+in-Some+else-set_end w ↦ ap marks_of w.self-is ∙ map-set_same narrow_of w.in-Narrow.narrow.items (w.in-Narrow.narrow.len - 1) w.set_end.new.self w.in-Some.last.now (ap narrow_of (w.set_end.ensures.kept w.if-set_end.false ∙ w.in-Some.ensures.value)) ∙ sym (ap all_marks w.in-Narrow.is)
      | in-Narrow+in_default-last_mut w ↦ ap marks_of w.self-is ∙ sym (ap all_marks w.in-Narrow.is)
      | in_default w ↦ ap marks_of w.self-is
    ] in
    subst (λ (l : List Mark). OnOk c.set_wide_end.result ((ms : List Mark) (p s m e : ℕ) → l ≡ ms ++ (p, s, m, e) ∷ [] → marks_of c.set_wide_end.new.self ≡ ms ++ (p, s, m, c.args.end) ∷ [])) same c.set_wide_end.ensures
