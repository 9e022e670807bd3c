use Rattle.std.specs.Prelude.{◌≡◌, ◌↔◌}
use Rattle.cborn_det.proofs.Common.{rules, Bool, true, false, IsTrue, Decides, sym, refl, ◌∙◌, subst, Det}
use Rattle.std.proofs.lemmas.Bool.Decides.{Decides-eqb}
use Rattle.std.proofs.lemmas.Slice.Eq.{slice_eq-Decides}
use Rattle.cborn_det.proofs.Canon.{same_of_one, one_of_same, one_det}
use Rattle.cborn_det.proofs.encoding.equal_bytes.Goals as goal

from_decides : (b : Bool) (P : Type 0) → Decides b P → IsTrue b ↔ P
from_decides true P d = (λ _. d.0 refl, λ _. refl)
from_decides false P d = (λ h. d.0 h, λ p. d.1 p)

pub returns : goal.returns
returns g c =
    let order = g.O.KeyOrder.order in
    let laws = g.met.O.KeyOrder.laws in
    let first = c.push_encoding.new.out.items in
    let second = c.push_encoding-2.new.out.items in
    let p = c.item.ensures.valid.0 in
    let q = c.item-2.ensures.valid.0 in
    let equal : IsTrue c.eq.result ↔ first ≡ second = from_decides c.eq.result _ (slice_eq-Decides Decides-eqb _ _ _ c.eq.ensures) in
    let a : Det order c.args.a.now first = search rules in
    let b : Det order c.args.b.now second = search rules in record {
      same = (
        λ h. same_of_one order c.args.a.now c.args.b.now first p q a (subst (Det order c.args.b.now) (sym (equal.0 h)) b),
        λ h. equal.1 (one_of_same order laws c.args.a.now c.args.b.now first second p q h a b),
      );
      bytes = λ x y d e.
          let one = one_det order laws c.args.a.now x first d a in
          let two = one_det order laws c.args.b.now y second e b in
          (λ h. one ∙ equal.0 h ∙ sym two, λ i. equal.1 (sym one ∙ i ∙ two));
    }
