-- What is answered where two inputs were encoded.
use Rattle.std.specs.Prelude.{◌≡◌, ◌≤◌, ◌↔◌}
use Rattle.cborn_engine.proofs.Common.{arith, ℕ, Bool, true, false, Decides, List, length, sym, ◌∙◌, subst, Option, Ordering, AllZip, IsKeyOrder, Value, Same, Kind, AreCompared, IsEncoded, IsCanonical, Holds, HoldSameItems, most_bytes, IsTrue}
use Rattle.cborn_engine.proofs.Comparison.Apart.{difference_too}
use Rattle.cborn_engine.proofs.Canonical.Canonicity.{own_bytes}
use Rattle.cborn_engine.proofs.Canonical.Headline.{alike}
use Rattle.cborn_engine.proofs.Held.Meant.{holds_once}

pub from_decides : (b : Bool) (P : Type 0) → Decides b P → IsTrue b ↔ P
from_decides b P h1 = grind (arith, false, true)

module _ (order : List ℕ → List ℕ → Ordering) (laws : IsKeyOrder order) where
  pub its_own : (k : Kind) (limit : ℕ) (input bytes x : List ℕ) → length input ≤ most_bytes → IsEncoded order k limit input bytes → x ≡ bytes → IsEncoded order Kind.Wire limit x x
  its_own k limit input bytes x short e f = subst (λ (y : List ℕ). IsEncoded order Kind.Wire limit y y) (sym f) (own_bytes order laws k limit input bytes short e).own

  -- inputs differ where their encodings do
  pub bytes_compared : (k l : Kind) (limit : ℕ) (first second ours theirs x y : List ℕ) (answer : Option ℕ) → length first ≤ most_bytes → length second ≤ most_bytes
      → IsEncoded order k limit first ours → IsEncoded order l limit second theirs → x ≡ ours → y ≡ theirs → AreCompared Kind.Wire Kind.Wire limit x y answer → AreCompared k l limit first second answer
  bytes_compared k l limit first second ours theirs x y answer short short2 a b e f c =
      let p = own_bytes order laws k limit first ours short a in
      let q = own_bytes order laws l limit second theirs short2 b in
      let held : Holds Kind.Wire limit ours c.ours = subst (λ (z : List ℕ). Holds Kind.Wire limit z c.ours) e c.held in
      let held2 : Holds Kind.Wire limit theirs c.theirs = subst (λ (z : List ℕ). Holds Kind.Wire limit z c.theirs) f c.held2 in
      let same : AllZip Same c.ours a.items = subst (λ (vs : List Value). AllZip Same vs a.items) (holds_once Kind.Wire limit ours p.own.items c.ours p.own.held held) p.same in
      let same2 : AllZip Same c.theirs b.items = subst (λ (vs : List Value). AllZip Same vs b.items) (holds_once Kind.Wire limit theirs q.own.items c.theirs q.own.held held2) q.same in
      record { ours = a.items; theirs = b.items; held = a.held; held2 = b.held; difference = difference_too c.ours c.theirs a.items b.items answer same same2 c.difference }

  -- inputs hold the same items exactly if their encodings are found to be the same bytes
  pub same_encodings : (k l : Kind) (limit : ℕ) (first second ours theirs x y : List ℕ) (b : Bool) → length first ≤ most_bytes → length second ≤ most_bytes
      → IsEncoded order k limit first ours → IsEncoded order l limit second theirs → x ≡ ours → y ≡ theirs → Decides b (x ≡ y) → IsTrue b ↔ HoldSameItems k l limit first second
  same_encodings k l limit first second ours theirs x y b p q d e f g t =
      let reported : IsTrue b ↔ (x ≡ y) = from_decides b (x ≡ y) t in
      let same = alike order laws k l Kind.Wire limit first second ours theirs p q (record { items = d.items; held = d.held; written = d.encoded }) (record { items = e.items; held = e.held; written = e.encoded }) in (
        λ h. same.0 (sym f ∙ reported.0 h ∙ g),
        λ h. reported.1 (f ∙ same.1 h ∙ sym g),
      )

  -- and so exactly if their forms are
  pub same_forms : (k l : Kind) (limit : ℕ) (first second : List ℕ) (b : Bool) → length first ≤ most_bytes → length second ≤ most_bytes → IsTrue b ↔ HoldSameItems k l limit first second
      → (out : Kind) (v w : List ℕ) → IsCanonical order k out limit first v → IsCanonical order l out limit second w → IsTrue b ↔ (v ≡ w)
  same_forms k l limit first second b p q s out v w c d =
      let same = alike order laws k l out limit first second v w p q c d in
      (λ h. same.1 (s.0 h), λ e. s.1 (same.0 e))
