-- A device of the tests: an order of keys that is neither of the two that RFC 8949 names. No public contract cites it.
use Rattle.std.proofs.Common.{ℕ, List, Ordering, sym}
use Rattle.cborn_model.specs.Orders.{IsKeyOrder, bytewise}
use Rattle.cborn_model.specs.shared.OrderLaws.{bytewise_order}

-- lexicographic on bytes, from the highest down
abbrev pub backwards : List ℕ → List ℕ → Ordering
backwards a b = bytewise b a

pub backwards_order : IsKeyOrder backwards
backwards_order = record {
  exact = λ a b e. sym (bytewise_order.exact b a e);
  itself = bytewise_order.itself;
  turned = λ a b. bytewise_order.turned b a;
  along = λ a b c p q. bytewise_order.along c b a q p;
}
