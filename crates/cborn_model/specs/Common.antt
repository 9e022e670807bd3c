-- The names from std and of heads that definitions and contracts use, each from where it is defined.
pub use Rattle.std.proofs.Common.{Equal, Greater, Less, Ordering, ap, arith, inl, inr, nat_cmp, ◌∙◌}
pub use Rattle.std.specs.Cmp.{IsTotalOrder}
pub use Rattle.std.specs.Cmp.Lexicographic.{slice_cmp}
pub use Rattle.std.specs.Coded.{Coded, code_by, coded_list, coded_ℕ, coded×, coded⊎}
pub use Rattle.std.specs.Int.{to_be_bytes, w16, w32, w64}
pub use Rattle.std.specs.List.{AllByRecursion, flat_map}
pub use Rattle.std.specs.Ordering.{ordering_reverse, ordering_then}
pub use Rattle.std.specs.Prelude.{Bool, IfOk, IfSome, IsPermutation, IsTrue, IsUtf8, List, MatchOption, None, OnErr, OnOk, Option, Some, [], drop, false, length, map, max, min, nat_le, nat_lt, negsuc, pos, refl, string_bytes, suc, take, true, vec_capacity, vec_len, zero, ℕ, ℤ, ⊤}
pub use Rattle.cborn_model.specs.declared.heads.Major.{Major}
pub use Rattle.cborn_model.specs.declared.heads.Major.TheVariants.{Array, ByteString, Map, Negative, Other, Tag, TextString, Unsigned}
pub use Rattle.cborn_model.specs.declared.heads.Size.{Size}
pub use Rattle.cborn_model.specs.declared.heads.Size.TheVariants.{Endless, Fixed}
pub use Rattle.cborn_model.specs.declared.heads.Width.{Width}
pub use Rattle.cborn_model.specs.declared.heads.Width.TheVariants.{Direct, Eight, Four, One, Two}
pub use Rattle.cborn_model.specs.declared.visitors.StringKind.{StringKind}
pub use Rattle.cborn_model.specs.declared.visitors.StringKind.TheVariants.{OfBytes, OfText}
