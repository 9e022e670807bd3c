use Rattle.std.specs.Prelude.{◌≡◌, ◌+◌, ◌*◌, ◌-◌, ◌<◌, ◌≤◌, ◌^◌, ◌%◌, ◌∷◌}
use Rattle.cborn_judge.proofs.Common.{ap, ◌∙◌, arith, ℕ, List, [], length, drop, get_or, AreBytes, are_bytes, front_of}
use Rattle.std.proofs.Math.Nat.{mod-eq_of_lt}
use Rattle.std.proofs.lemmas.Nat.{mod-mul-add}
use Rattle.std.specs.Int.{from_be_bytes, w32}
use Rattle.cborn_judge.proofs.hints.after_four.Goals as goal

-- of a number of 64 bits the low 32
low_half : (w p r : ℕ) → w ≡ p * 4294967296 + r → r < 4294967296 → w < 18446744073709551616 → w % 18446744073709551616 % 4294967296 ≡ r
low_half w p r e l m = ap (λ z. z % 4294967296) (mod-eq_of_lt m ∙ e) ∙ mod-mul-add p 4294967296 r l

last_four : List ℕ → ℕ
last_four k = from_be_bytes w32 (get_or k (length k - 4) 0 ∷ get_or k (length k - 3) 0 ∷ get_or k (length k - 2) 0 ∷ get_or k (length k - 1) 0 ∷ [])

cut : (k : List ℕ) → AreBytes k → 4 ≤ length k → length k < 8 → last_four k * 2 ^ (64 - 8 * length k) % 18446744073709551616 % 4294967296 ≡ front_of 4 (drop 4 k)
unfolding last_four
cut (a ∷ b ∷ c ∷ d ∷ []) h l m = low_half _ (a * 16777216 + b * 65536 + c * 256 + d) _ (omega arith) (omega arith) (omega (arith, h.0, h.1.0, h.1.1.0, h.1.1.1.0))
cut (a ∷ b ∷ c ∷ d ∷ e ∷ []) h l m = low_half _ (b * 65536 + c * 256 + d) _ (omega arith) (omega (arith, h.1.1.1.1.0)) (omega (arith, h.1.0, h.1.1.0, h.1.1.1.0, h.1.1.1.1.0))
cut (a ∷ b ∷ c ∷ d ∷ e ∷ f ∷ []) h l m = low_half _ (c * 256 + d) _ (omega arith) (omega (arith, h.1.1.1.1.0, h.1.1.1.1.1.0)) (omega (arith, h.1.1.0, h.1.1.1.0, h.1.1.1.1.0, h.1.1.1.1.1.0))
cut (a ∷ b ∷ c ∷ d ∷ e ∷ f ∷ g ∷ []) h l m = low_half _ d _ (omega arith) (omega (arith, h.1.1.1.1.0, h.1.1.1.1.1.0, h.1.1.1.1.1.1.0)) (omega (arith, h.1.1.1.0, h.1.1.1.1.0, h.1.1.1.1.1.0, h.1.1.1.1.1.1.0))
cut _ h l m = absurd (omega arith)

pub returns-clause-value : goal.returns-clause-value
unfolding last_four
returns-clause-value c =
    let key = c.args.key.now in
    let is : c.from-last.result ≡ last_four key = c.from-last.ensures ∙ c.from_be_bytes.ensures in
    ap (λ n. n * 2 ^ (64 - 8 * length key) % 18446744073709551616 % 4294967296) is ∙ cut key (are_bytes key c.type_inv.key) c.requires.from_four c.requires.to_seven
