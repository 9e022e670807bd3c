-- The two orders of keys by their encodings (RFC 8949 sections 4.2.1 and 4.2.3), and when keys rise.
use Rattle.std.specs.Prelude.{◌≡◌, ◌∷◌}
use Rattle.cborn_model.specs.Common.{ℕ, List, [], length, ⊤, Ordering, Less, Equal, nat_cmp, ordering_then, ordering_reverse, slice_cmp}
use Rattle.cborn_model.specs.declared.orders.KnownOrder.{KnownOrder}
use Rattle.cborn_model.specs.declared.orders.KnownOrder.TheVariants as known

-- the laws of an order of keys
pub record IsKeyOrder (order : List ℕ → List ℕ → Ordering) : Type 0 where
  pub exact : (a b : List ℕ) → order a b ≡ Equal → a ≡ b
  pub itself : (a : List ℕ) → order a a ≡ Equal
  pub turned : (a b : List ℕ) → order b a ≡ ordering_reverse (order a b)
  pub along : (a b c : List ℕ) → order a b ≡ Less → order b c ≡ Less → order a c ≡ Less

-- lexicographic on bytes: a proper prefix comes first
abbrev pub bytewise : List ℕ → List ℕ → Ordering
bytewise = slice_cmp nat_cmp

-- the shorter first, and those of equal length bytewise
abbrev pub length_first : List ℕ → List ℕ → Ordering
length_first a b = ordering_then (nat_cmp (length a) (length b)) (bytewise a b)

-- what each stands for
abbrev pub order_of : KnownOrder → List ℕ → List ℕ → Ordering
order_of known.Bytewise = bytewise
order_of known.LengthFirst = length_first

-- each key is below the next
abbrev pub Rising : (List ℕ → List ℕ → Ordering) → List (List ℕ) → Type 0
Rising order [] = ⊤
Rising order (k ∷ []) = ⊤
Rising order (k ∷ l ∷ ks) = (order k l ≡ Less) × Rising order (l ∷ ks)
