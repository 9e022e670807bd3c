use Rattle.std.specs.Prelude.{◌≡◌, ◌<◌, ◌^◌, ◌++◌}
use Rattle.cborn_judge.proofs.Common.{rules, Bool, length, ap, refl, sym, ◌∙◌, subst, arith, leb, leb-true, leb-false, put, Mark, after, has_key, IsMarked, Container, marks_of, on_ok}
use Rattle.cborn_judge.proofs.Encoding.Standing.{stands_put, stands_same}
use Rattle.cborn_judge.proofs.encoders.Encodings.put.Goals as goal

pub returns : goal.returns
returns c = record {
  held = on_ok c.mark.result (λ e order f t y x free at out start coded stands.
      let old = c.args.self.now in
      let end : c.len-end.result ≡ length old.out.items = search rules in
      let whole : c.len-end.result ≡ length (y ++ x) = end ∙ ap length out in
      let short : c.len-end.result < 2 ^ 64 = search rules in
      let bad = leb c.len-end.result c.args.start in
      let kept = c.mark.ensures.kept in
      let there : Mark = (c.args.place, c.args.start, c.len-end.result, c.len-end.result) in
      let Marked : Container → Bool → Mark → Type 0 = λ a b m. IsMarked a b m (marks_of old.pairs) (marks_of c.mark.new.self.pairs) in
      stands_same order old.outer.items c.mark.new.self.outer.items (after old.innermost bad) c.mark.new.self.innermost (put f t) (marks_of c.mark.new.self.pairs) (marks_of c.mark.new.self.pairs) (y ++ x) c.mark.new.self.out.items
      (ap (λ v. v.items) kept.2) (kept.1 ∙ c.add.ensures) refl (ap (λ v. v.items) kept.0 ∙ out)
      (stands_put order old.outer.items old.innermost f t (marks_of old.pairs) (marks_of c.mark.new.self.pairs) y x bad free (omega (arith, whole, short)) coded
      (λ b. omega (arith, leb-true c.len-end.result c.args.start b, whole, start)) (λ b. omega (arith, leb-false c.len-end.result c.args.start b, whole, start))
      (subst (λ m. Marked old.innermost.container (has_key old.innermost) m) (λ j. (sym at j, start j, whole j, whole j)) (subst (λ b. Marked old.innermost.container b there) c.has_key-has_key.ensures (subst (λ l. Marked l.container c.has_key-has_key.result there) c.add.ensures e)))
      stands)) c.mark.ensures.marked;
}
