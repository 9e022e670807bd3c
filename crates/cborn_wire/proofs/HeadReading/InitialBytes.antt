-- The table of faults says the same by numbers as by the major type and the information as data.
use Rattle.std.specs.Prelude.{◌≡◌, ◌/◌, ◌%◌, ◌∷◌, ◌&&◌, ◌||◌}
use Rattle.cborn_wire.proofs.Common.{refl, ℕ, List, Bool, false, leb, eqb, arith, code, StringKind, major_of, Slot, element_or_end, chunk, reason_of, reason_at, major_at, reason_alone, Info, info_at, is_reserved, is_endless_head, is_always_bounded, is_other, is_container, is_of_kind, is_bad_chunk, is_float, is_one, head_reason, front_reason, common_steps, nat_tests}
use Rattle.cborn_wire.specs.SlotFaults as numbers

pub other_is : (m : ℕ) → leb 7 m ≡ is_other (major_at m)
other_is m = grind (arith, common_steps, nat_tests)

pub bounded_is : (m : ℕ) → (leb m 1 || eqb m 6) ≡ is_always_bounded (major_at m)
bounded_is m = grind (arith, common_steps, nat_tests)

container_is : (m : ℕ) → (leb 4 m && leb m 6) ≡ is_container (major_at m)
container_is m = grind (arith, common_steps, nat_tests)

kind_is : (k : StringKind) (m : ℕ) → eqb m (code (major_of k)) ≡ is_of_kind k (major_at m)
kind_is k m = grind (arith, common_steps, nat_tests)

-- information and the data that it is
pub record SaysInfo (i : ℕ) (j : Info) : Type 0 where
  pub reserved : (leb 28 i && leb i 30) ≡ is_reserved j
  pub endless_information : eqb i 31 ≡ is_endless_head j
  pub float : (leb 25 i && leb i 27) ≡ is_float j
  pub one : eqb i 24 ≡ is_one j

bad_chunk_is : (s : Slot) (m i : ℕ) (j : Info) → SaysInfo i j → numbers.is_bad_chunk s m i ≡ is_bad_chunk s (major_at m) j
bad_chunk_is (chunk k) m i j h = rw (other_is m, h.endless_information, kind_is k m) refl
bad_chunk_is s m i j h = refl

reason_is : (s : Slot) (full : Bool) (m i : ℕ) (j : Info) (y : List ℕ) → SaysInfo i j → reason_of s full m i y ≡ head_reason s full (major_at m) j y
reason_is s full m i j y h = rw (bad_chunk_is s m i j h, h.reserved, h.endless_information, bounded_is m, other_is m, h.float, h.one, container_is m) refl

pub same_reason : (limit : ℕ) (s : Slot) (k : ℕ) (y : List ℕ) → reason_at limit s k y ≡ front_reason limit s k y
same_reason limit s k y = grind (arith, reason_is, common_steps, nat_tests)

-- wherever an item or a break is allowed
pub same_alone : (b : ℕ) (y : List ℕ) → reason_alone (b ∷ y) ≡ head_reason element_or_end false (major_at (b / 32)) (info_at (b % 32)) y
same_alone b y = same_reason 1 element_or_end 0 (b ∷ y)
