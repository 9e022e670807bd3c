-- What is known in the loop that feeds the pieces of an input.
use Rattle.std.specs.Prelude.{◌≡◌, ◌≤◌, ◌+◌, ◌++◌}
use Rattle.cborn_engine.proofs.Common.{ℕ, List, [], length, Bool, true, false, Option, None, Some, Result, Ok, Err, inl, inr, refl, sym, ◌∙◌, ap, subst, arith, length-append, ⊤, is_err, Consumes, WireFault, Refused, Fault, of_wire, Loads, PieceAnswers, Truncated, refused_stays, Kind}
use Rattle.cborn_wire.specs.Feeding.{Feeding, IsFed, Feeds, fresh}
use Rattle.cborn_engine.proofs.Streams.Coming.{SoFar, taken_all}

abbrev pub StaysRefused : ℕ → List ℕ → WireFault → Type 0
StaysRefused limit x (WireFault.Refused p r) = Refused limit x p r
StaysRefused limit x WireFault.OutOfMemory = ⊤

-- the feeder accepted the input, or refused it on the way
abbrev pub IsFedSoFar : ℕ → List ℕ → Bool → Feeding → Type 0
IsFedSoFar limit input false f = (f.limit ≡ limit) × (f.held ≡ input) × (f.fed ≡ length input) × (f.fault ≡ None) × IsFed f
IsFedSoFar limit input true f = (why : WireFault) × (f.fault ≡ Some why) × StaysRefused limit input why

nothing_longer : (x f y : List ℕ) → x ≡ [] → x ≡ f ++ y → length f ≤ 0
nothing_longer x f y e h = omega (arith, ap length e, ap length h, length-append f y)

-- nothing was fed
pub none_fed : (limit : ℕ) → IsFedSoFar limit [] false (fresh limit)
none_fed limit = (refl, refl, refl, refl, (0, refl, record { front = []; rest = []; whole = refl; read = record { spells = refl; fit = tt; shallow = omega arith }; placed = tt; longest = λ f y others h w. nothing_longer [] f y refl h }))

stays : (limit : ℕ) (x y : List ℕ) (why : WireFault) → StaysRefused limit x why → StaysRefused limit (x ++ y) why
stays limit x y why h1 = grind (arith, refused_stays)

-- what was refused stays refused
pub read_on : (limit : ℕ) (x piece : List ℕ) (f : Feeding) → IsFedSoFar limit x true f → IsFedSoFar limit (x ++ piece) true f
read_on limit x piece f (why, is, h) = (why, is, stays limit x piece why h)

-- a piece was fed
pub fed_now : (limit : ℕ) (x piece : List ℕ) (f g : Feeding) (r : Result Unit WireFault) → IsFedSoFar limit x false f → Feeds piece f r g → IsFedSoFar limit (x ++ piece) (is_err r) g
fed_now limit x piece f g (Ok u) s k = (
  ap (λ (e : Feeding). e.limit) k.0 ∙ s.0,
  ap (λ (e : Feeding). e.held) k.0 ∙ ap (λ y. y ++ piece) s.1,
  ap (λ (e : Feeding). e.fed) k.0 ∙ ap (λ (n : ℕ). n + length piece) s.2 ∙ sym (length-append x piece),
  ap (λ (e : Feeding). e.fault) k.0 ∙ s.3,
  k.1,
)
fed_now limit x piece f g (Err (WireFault.Refused p r)) s k =
    let e : k.1.1 ≡ p = omega (arith, s.2, ap length s.1, k.1.2, k.1.3) in
    (WireFault.Refused p r, ap (λ (h : Feeding). h.fault) k.0, subst (λ (n : ℕ). Refused n (x ++ piece) p r) s.0 (subst (λ (y : List ℕ). Refused f.limit (y ++ piece) p r) s.1 (subst (λ (q : ℕ). Refused f.limit (f.held ++ piece) q r) e k.1.4)))
fed_now limit x piece f g (Err WireFault.OutOfMemory) s k = (WireFault.OutOfMemory, ap (λ (h : Feeding). h.fault) k.0, tt)

-- what the feeder makes of an input that ended
module _ (limit most left : ℕ) (a b c : Option (List ℕ)) (refused : Bool) (f : Feeding) (s : SoFar most left a b (λ x. IsFedSoFar limit x refused f)) (buf : List ℕ) (n : ℕ) (p : PieceAnswers b c left buf (Ok n)) (e : n ≡ 0) where
  within : length s.input ≤ most
  within = omega (arith, s.count)

  taken : Consumes a c s.input
  taken = taken_all most left a b c (λ x. IsFedSoFar limit x refused f) s buf n p e

  pub ended_badly : (why : WireFault)
      → (f.fault ≡ None → (why ≡ WireFault.Refused f.fed Truncated) × Fault f.limit f.held (length f.held) Truncated)
      → ((e : WireFault) → f.fault ≡ Some e → why ≡ e)
      → Loads Kind.Wire limit most a c (Err (of_wire why))
  ended_badly why cut again = go refused s.known
    where
      reported : (w : WireFault) → StaysRefused limit s.input w → Loads Kind.Wire limit most a c (Err (of_wire w))
      reported (WireFault.Refused q r) k = record { input = s.input; taken = taken; answer = ((within, inl k), tt); to_end = inl (p.3 e) }
      reported WireFault.OutOfMemory k = record { input = s.input; taken = taken; answer = (within, tt); to_end = inr (inr (inr refl)) }

      go : (refused : Bool) → IsFedSoFar limit s.input refused f → Loads Kind.Wire limit most a c (Err (of_wire why))
      go true k = subst (λ (w : WireFault). Loads Kind.Wire limit most a c (Err (of_wire w))) (sym (again k.0 k.1)) (reported k.0 k.2)
      go false k =
          let i = cut k.3 in
          let j : Fault limit s.input (length s.input) Truncated = subst (λ (x : List ℕ). Fault limit x (length x) Truncated) k.1 (subst (λ (m : ℕ). Fault m f.held (length f.held) Truncated) k.0 i.1) in
          let l : Fault limit s.input f.fed Truncated = subst (λ (m : ℕ). Fault limit s.input m Truncated) (sym k.2) j in
          let h : Loads Kind.Wire limit most a c (Err (of_wire (WireFault.Refused f.fed Truncated))) = record { input = s.input; taken = taken; answer = ((within, l), tt); to_end = inl (p.3 e) } in
          subst (λ (w : WireFault). Loads Kind.Wire limit most a c (Err (of_wire w))) (sym i.0) h
