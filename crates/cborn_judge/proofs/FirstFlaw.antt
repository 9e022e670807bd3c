-- The first flaw of a sequence.
use Rattle.std.specs.Prelude.{◌∷◌, ◌≡◌, ◌+◌, ◌<◌}
use Rattle.cborn_judge.proofs.Common.{inl, inr, List, [], Tree, trees, WithinAll, ℕ, refl, subst, FlawAt, Flaw, InvalidReason, FlawIn, zero, suc, length, get_or, take, arith, Result, Ok, Err, AllZip, IfErr, IsErr, IsFirst, NoLater, Means, PlacedAll, flaw_rank, spelled, Value, IsRefusal, IsRefusalOfAll}
use Rattle.std.specs.Result.{IsErrAnd}
use Rattle.cborn_judge.specs.declared.faults.Invalid.{Invalid}
use Rattle.cborn_judge.specs.declared.faults.Invalid.TheVariants.{OutOfMemory, Refused}
use Rattle.cborn_judge.proofs.Meaning.Judging.{meaning}
use Rattle.cborn_judge.proofs.Meaning.Placing.{flaw_within, flaw_after}

-- ---- what the nodes of a sequence mean, or the first flaw of the first that means nothing, as a loop over them meets them

refused_here : (ts : List Tree) (i : ℕ) (d : Tree) (vs : List Value) (f : Invalid) → i < length ts → AllZip Means (take i ts) vs → IsRefusal (get_or ts i d) f → IsRefusalOfAll ts f
refused_here [] i d vs f l h r = absurd (omega arith)
refused_here (t ∷ ts) zero d vs f l h r = inl r
refused_here (t ∷ ts) (suc i) d [] f l h r = absurd h
refused_here (t ∷ ts) (suc i) d (v ∷ vs) f l h r = inr ((v, h.0), refused_here ts i d vs f (omega arith) h.1 r)

pub refused_at : (ts : List Tree) (i : ℕ) (t : Tree) (vs : List Value) (f : Invalid) → i < length ts → t ≡ get_or ts i t → AllZip Means (take i ts) vs → IsRefusal t f → IsRefusalOfAll ts f
refused_at ts i t vs f l e h r = refused_here ts i t vs f l h (subst (λ z. IsRefusal z f) e r)

pub refused_memory : (ts : List Tree) → IsRefusalOfAll ts OutOfMemory
refused_memory [] = refl
refused_memory (t ∷ ts) = inl tt

-- an error that was passed on
pub passed_on : {A E : Type 0} (r : Result A E) (P Q : E → Type 0) → ((e : E) → P e → Q e) → IsErr r × IsErrAnd r P → IfErr r Q
passed_on (Ok x) P Q f h = tt
passed_on (Err e) P Q f h = f e h.1

-- ---- nodes that lie one after another

no_sooner : (p q m n : ℕ) → q < p → NoLater (p, m) (q, n) → ⊥
no_sooner p q m n h1 h2 = grind arith

-- each flaw of a node is before those of the nodes after it
abbrev pub AreApart : List Tree → Type 0
AreApart [] = Unit {0}
AreApart (t ∷ ts) = ((p q : ℕ) (r s : InvalidReason) → Flaw t p r → FlawIn (trees ts) q s → p < q) × AreApart ts

pub placed_apart : (ts : List Tree) (a : ℕ) → PlacedAll a (trees ts) → AreApart ts
placed_apart [] a h = tt
placed_apart (t ∷ ts) a h = (λ p q r s f g. omega (arith, (flaw_within t a p r h.0 f).1, flaw_after (trees ts) (a + length (spelled t)) g.0 q s h.1 g.1 g.2), placed_apart ts (a + length (spelled t)) h.1)

-- the first flaw of all is that of the first node that means nothing
pub first_refusal : (ts : List Tree) (p : ℕ) (r : InvalidReason) → AreApart ts → IsFirst flaw_rank (FlawIn (trees ts)) p r → IsRefusalOfAll ts (Refused p r)
first_refusal [] p r h f = absurd f.is.1
first_refusal (t ∷ ts) p r h f = by f.is.0 f.is.1 f.is.2 (first_refusal ts p r h.1)
  where
    by : (q : Tree) → WithinAll q (trees (t ∷ ts)) → FlawAt q p r → (IsFirst flaw_rank (FlawIn (trees ts)) p r → IsRefusalOfAll ts (Refused p r)) → IsRefusalOfAll (t ∷ ts) (Refused p r)
    by q (inl w) g rest = inl (record { is = (q, w, g); first = λ s i k. f.first s i (k.0, inl k.1, k.2) })
    by q (inr w) g rest =
        let sound : (s : ℕ) (i : InvalidReason) → Flaw t s i → ⊥ = λ s i k. no_sooner p s (flaw_rank r) (flaw_rank i) (h.0 s p i r k (q, w, g)) (f.first s i (k.0, inl k.1, k.2)) in
        inr (meaning t sound, rest (record { is = (q, w, g); first = λ s i k. f.first s i (k.0, inr k.1, k.2) }))
