use Rattle.std.specs.Prelude.{◌≡◌, ◌∷◌, ◌++◌}
use Rattle.cborn_judge.proofs.Common.{[], refl, ap, ◌∙◌, subst, sym, arith, AreBytes, IsShortest, big_endian, bytes, Det, IsSound}
use Rattle.cborn_judge.proofs.Encoding.Ends.{no_string, rest_read, code_string, code_no_string}
use Rattle.cborn_judge.proofs.ends.bignum_of.Goals as goal

pub returns-then-level : goal.returns-then-level
returns-then-level c order t y z is at sound coded = no_string t (subst (λ b. IsSound b (t ∷ [])) c.if-level.true sound)

pub returns-in_default : goal.returns-in_default
returns-in_default c order t y z is at sound coded =
    let code : c.unwrap_or-code.result.now ≡ z = ap (λ b. b.now) c.unwrap_or-code.ensures ∙ rest_read c.get.result _ c.args.level.content c.args.out.now y z c.get.ensures.lookup.0 is at in
    code_no_string order t z (coded c.if-level.false) (λ b p d. c.in_default.ensures.none refl order b p (subst (Det order (bytes b)) (sym code) d))

pub returns : goal.returns
returns c order t y z is at sound coded =
    let code : c.unwrap_or-code.result.now ≡ z = ap (λ b. b.now) c.unwrap_or-code.ensures ∙ rest_read c.get.result _ c.args.level.content c.args.out.now y z c.get.ensures.lookup.0 is at in
    let b = c.in-Some.bytes.now in
    let same : c.extend_from_slice.new.self.items ≡ c.without_zeros.result.now = c.in_ok-extend_from_slice.ensures.items ∙ ap (λ m. m ++ c.without_zeros.result.now) c.clear.ensures.items in
    let w = c.without_zeros.ensures in (
      b,
      code_string order t z b (coded c.if-level.false) (λ v p d. c.in-Some.ensures.some order v p (subst (Det order v) (sym code) d)),
      subst AreBytes (sym same) w.bytes,
      subst IsShortest (sym same) w.shortest,
      omega (arith, c.extend_from_slice.new.self.ok),
      ap big_endian same ∙ w.number,
      c.loose_defect-defect.ensures,
    )
