use Rattle.cborn_judge.proofs.Common.{ap, refl, ◌∙◌, built, marks_of, on_ok}
use Rattle.cborn_judge.proofs.Encoding.Fronts.{built_place}
use Rattle.cborn_judge.proofs.Encoding.Standing.{stands_same}
use Rattle.cborn_judge.proofs.encoders.Encodings.leave.Goals as goal

pub returns : goal.returns
returns c = record {
  held = on_ok c.put.result (λ held order f o ts found free h.
      let old = c.args.self.now in
      let new = c.step_out.new.self in
      let l = old.innermost in
      let left = c.step_out.ensures.left h.outer h.around h.levels in
      let kept = c.step_out.ensures.kept in
      held order f (built o ts) h.before h.encoded free (built_place l.container l.place o ts h.opens) (ap (λ v. v.items) kept.0 ∙ h.out) h.start h.coded
      (stands_same order h.outer new.outer.items h.around new.innermost f (marks_of old.pairs) (marks_of new.pairs) h.before h.before left.0 left.1 (ap marks_of kept.1) refl h.stands)) c.put.ensures.held;
}
