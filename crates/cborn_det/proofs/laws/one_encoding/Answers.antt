use Rattle.cborn_det.proofs.Common.{subst, sym, Det}
use Rattle.cborn_det.proofs.Canon.{same_of_one, one_of_same}
use Rattle.cborn_det.proofs.laws.one_encoding.Goals as goal

pub returns : goal.returns
returns g c a b x y p q d e = (
  λ i. same_of_one g.O.KeyOrder.order a b x p q d (subst (Det g.O.KeyOrder.order b) (sym i) e),
  λ h. one_of_same g.O.KeyOrder.order g.met.O.KeyOrder.laws a b x y p q h d e,
)
