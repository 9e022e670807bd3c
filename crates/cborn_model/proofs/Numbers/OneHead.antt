-- A head says its major type, its width and its argument, whatever follows it.
use Rattle.std.specs.Prelude.{◌≡◌, ◌<◌, ◌^◌, ◌∷◌, ◌++◌}
use Rattle.cborn_model.proofs.Common.{ℕ, List, [], length, refl, arith, true, false, Bool, cond, w16, w32, w64, Direct, WidthFits, information, following, IsHead, least, ltb-true}
use Rattle.std.proofs.lemmas.Nat.{from_be_bytes-to_be_bytes_2, from_be_bytes-to_be_bytes_4, from_be_bytes-to_be_bytes_8}
use Rattle.cborn_model.specs.declared.heads.Width.{Width}

-- lists of one length at the front
pub append_same : {A : Type 0} (a b r s : List A) → length a ≡ length b → a ++ r ≡ b ++ s → (a ≡ b) × (r ≡ s)
append_same [] [] r s l e = (refl, e)
append_same [] (y ∷ b) r s l e = absurd (omega arith)
append_same (x ∷ a) [] r s l e = absurd (omega arith)
append_same (x ∷ a) (y ∷ b) r s l e =
    let below : a ++ r ≡ b ++ s = cc in
    let t = append_same a b r s (omega arith) below in
    let here : x ≡ y = cc in
    let first : a ≡ b = t.0 in
    (cc, t.1)

pub low_bits_below : (w : Width) (n : ℕ) → WidthFits w n → information w n < 31
low_bits_below Direct n p = omega arith
low_bits_below _ n p = omega arith

same_argument : (w v : Width) (n k : ℕ) (r s : List ℕ) → WidthFits w n → WidthFits v k → information w n ≡ information v k → following w n ++ r ≡ following v k ++ s → (w ≡ v) × (n ≡ k) × (following w n ≡ following v k) × (r ≡ s)
same_argument w v n k r s h1 h2 h3 h4 = grind (arith, append_same, from_be_bytes-to_be_bytes_2, from_be_bytes-to_be_bytes_4, from_be_bytes-to_be_bytes_8, w16, w32, w64)

-- what two heads at the front of one list are
pub record OneHead (m j : ℕ) (w v : Width) (n k : ℕ) (x y r s : List ℕ) : Type 0 where
  pub major : m ≡ j
  pub width : w ≡ v
  pub argument : n ≡ k
  pub head : x ≡ y
  pub rest : r ≡ s

pub one_head : {m j n k : ℕ} (w v : Width) {x y : List ℕ} (r s : List ℕ) → IsHead m w n x → IsHead j v k y → x ++ r ≡ y ++ s → OneHead m j w v n k x y r s
one_head w v r s h1 h2 h3 = grind (arith, low_bits_below, same_argument)

holds_cond : (b : Bool) (w v : Width) (n : ℕ) → (b ≡ true → WidthFits w n) → (b ≡ false → WidthFits v n) → WidthFits (cond b w v) n
holds_cond b w v n h1 h2 = grind arith

-- each number below 2 ^ 64 has a least head, and one
pub least_holds : (n : ℕ) → n < 2 ^ 64 → WidthFits (least n) n
least_holds n h1 = grind (arith, holds_cond, ltb-true)
