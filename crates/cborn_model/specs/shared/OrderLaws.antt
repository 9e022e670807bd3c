-- A device of the proofs: both orders of keys have the laws.
use Rattle.std.specs.Prelude.{◌≡◌}
use Rattle.cborn_model.specs.Common.{ℕ, List, length, Ordering, Less, Equal, Greater, nat_cmp, ordering_then, IsTotalOrder}
use Rattle.std.proofs.lemmas.Cmp.{nat_list_cmp_total, then_total, on_total, nat_cmp_total, tied_itself}
use Rattle.std.proofs.lemmas.Map.Lookups.{exact_bytes}
use Rattle.cborn_model.specs.Orders.{IsKeyOrder, bytewise, length_first}

-- an order that is total, and at which only equal lists tie
from_total : (order : List ℕ → List ℕ → Ordering) → IsTotalOrder order → ((a b : List ℕ) → order a b ≡ Equal → a ≡ b) → IsKeyOrder order
from_total order t exact = record { exact = exact; itself = tied_itself t; turned = λ a b. t.antisymm b a; along = t.trans }

exact_length_first : (a b : List ℕ) → length_first a b ≡ Equal → a ≡ b
exact_length_first a b e = by (nat_cmp (length a) (length b)) e
  where
    by : (o : Ordering) → ordering_then o (bytewise a b) ≡ Equal → a ≡ b
    by Less f = cc
    by Equal f = exact_bytes a b f
    by Greater f = cc

pub bytewise_order : IsKeyOrder bytewise
bytewise_order = from_total bytewise nat_list_cmp_total exact_bytes

pub length_first_order : IsKeyOrder length_first
length_first_order = from_total length_first (then_total (on_total length nat_cmp_total) nat_list_cmp_total) exact_length_first
