-- What follows where the outputs are canonical forms.
use Rattle.std.specs.Prelude.{◌≡◌, ◌≤◌, ◌↔◌, ◌++◌}
use Rattle.cborn_engine.proofs.Common.{inl, inr, ℕ, List, length, Err, sym, subst, ap, Ordering, AllZip, IsKeyOrder, Value, Same, EngineFault, Kind, Canon, HoldSameItems, IsNoRefusal, IsTrouble, IsFront, IsCanonical, NormaliseAnswers, most_bytes}
use Rattle.cborn_engine.proofs.Canonical.Canonicity.{valid, reads_back, alone, one_for_same, again}
use Rattle.cborn_engine.proofs.Held.Known.{input_read}
use Rattle.cborn_engine.proofs.Held.Meant.{holds_once, all_turned}

module _ (order : List ℕ → List ℕ → Ordering) (laws : IsKeyOrder order) where
  -- two outputs are one exactly if the items are the same
  pub one_output : (k l out : Kind) (limit : ℕ) (x y v w : List ℕ) → length x ≤ most_bytes → length y ≤ most_bytes → (a : IsCanonical order k out limit x v) (b : IsCanonical order l out limit y w) → (v ≡ w) ↔ AllZip Same a.items b.items
  one_output k l out limit x y v w p q a b =
      let same = one_for_same order laws k out limit x v p a b.items (valid order laws l out limit y w q b) in (
        λ e. same.0 (subst (Canon order out b.items) (sym e) b.written),
        λ s. alone order laws l out limit y w q b v (same.1 s),
      )

  pub alike : (k l out : Kind) (limit : ℕ) (x y v w : List ℕ) → length x ≤ most_bytes → length y ≤ most_bytes → IsCanonical order k out limit x v → IsCanonical order l out limit y w → (v ≡ w) ↔ HoldSameItems k l limit x y
  alike k l out limit x y v w p q a b =
      let same = one_output k l out limit x y v w p q a b in (
        λ e. record { ours = a.items; theirs = b.items; held = a.held; held2 = b.held; same = same.0 e },
        λ h. same.1
            (subst (λ (vs : List Value). AllZip Same vs b.items) (holds_once k limit x h.ours a.items h.held a.held)
            (subst (AllZip Same h.ours) (holds_once l limit y h.theirs b.items h.held2 b.held) h.same)),
      )

  -- an output holds the items of its input
  pub same_held : (k out : Kind) (limit : ℕ) (x v : List ℕ) → length x ≤ most_bytes → IsCanonical order k out limit x v → HoldSameItems k out limit x v
  same_held k out limit x v p a =
      let back = reads_back order laws k out limit x v p a in
      record { ours = a.items; theirs = back.0; held = a.held; held2 = back.1; same = all_turned back.0 a.items back.2 }

  -- an output is refused only in trouble, and a front of it goes out
  pub refused_again : (k out : Kind) (limit most : ℕ) (x v w : List ℕ) (why : EngineFault) → length x ≤ most_bytes → length v ≤ most → IsCanonical order k out limit x v → NormaliseAnswers order out out limit most v w (Err why) → IsTrouble why × IsFront w v
  refused_again k out limit most x v w why short room a (inl (e, (whole, f, front))) = (subst IsTrouble (sym e) tt, subst (IsFront w) (again order laws k out limit x v short a whole f.1) front)
  refused_again k out limit most x v w why short room a (inr (r, e)) =
      let back = reads_back order laws k out limit x v short a in
      (trouble why (input_read out limit most v back.0 why room back.1 r), (v, ap (λ (u : List ℕ). u ++ v) e))
    where
      trouble : (why : EngineFault) → IsNoRefusal why → IsTrouble why
      trouble EngineFault.ReadFault n = tt
      trouble EngineFault.OutOfMemory n = tt
      trouble _ n = absurd n
