use Rattle.std.specs.Prelude.{◌++◌}
use Rattle.cborn_judge.proofs.Common.{[], inr, append_assoc, append-nil, refl, ap, ◌∙◌, subst, IsInteger, bignum_tag, IsBignumFound, tags}
use Rattle.cborn_judge.proofs.Encoding.Ends.{cut, bad_found, bignum_nothing, bignum_coded}
use Rattle.cborn_judge.proofs.FirstDefect.{loose_found}
use Rattle.cborn_judge.proofs.ends.end_bignum.Goals as goal

pub returns-in_default : goal.returns-in_default
returns-in_default c order t w x h z is start content sound coded =
    let l = c.args.level in
    let none = subst (IsBignumFound l.place t c.bignum_of.new.magnitude.items) c.in_default.is (c.in_ok-bignum.ensures order t (x ++ h) z (c.deref.ensures.value ∙ is) content sound coded) in (
      [],
      inr (refl, bignum_nothing l.place w c.args.negative t none),
      cut l.start x (h ++ z) c.args.out.now.items c.truncate.new.self.items (is ∙ append_assoc x h z) start c.truncate.ensures.items,
      bad_found l.place w c.args.negative t none,
      λ e. cc,
    )

pub returns : goal.returns
returns c order t w x h z is start content sound coded =
    let l = c.args.level in
    let m = c.bignum_of.new.magnitude.items in
    let (b, string, all, shortest, fits, same, defect) = subst (IsBignumFound l.place t c.bignum_of.new.magnitude.items) c.in-Some.is (c.in_ok-bignum.ensures order t (x ++ h) z (c.deref.ensures.value ∙ is) content sound coded) in
    let front = cut l.start x (h ++ z) c.args.out.now.items c.truncate.new.self.items (is ∙ append_assoc x h z) start c.truncate.ensures.items ∙ append-nil x in
    let (code, integer, new) = c.in_ok-push_integer.ensures.added in (
      code,
      bignum_coded order l.place w c.args.negative t b m code string all shortest fits same (subst (λ k. IsInteger c.args.negative k code) c.deref-2.ensures.value integer),
      new ∙ ap (λ y. y ++ code) front,
      (λ p r f. f.3 b string),
      λ e. loose_found order l.place (bignum_tag c.args.negative) t b b c.in-Some.bignum.defect (tags c.args.negative) string refl defect,
    )
