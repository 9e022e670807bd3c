-- What a loop over a writer knows.
use Rattle.std.specs.Prelude.{◌≡◌, ◌≢◌, ◌+◌, ◌-◌, ◌<◌}
use Rattle.cborn_engine.proofs.Common.{arith, ℕ, zero, suc, List, length, take, drop, Option, Ok, Err, refl, sym, ◌∙◌, ap, subst, length-drop, Appends, Appends-trans, take-append-drop, take_rest, take-add, drop-cons, Sends, failures_after_write, one_more}
use Rattle.cborn_engine.specs.declared.faults.EngineFault.TheVariants.{WriteFault}

-- a write that takes some bytes is no failure
pub no_failure : (n : ℕ) (piece : List ℕ) (count : ℕ) → n ≢ 0 → failures_after_write {E = Unit} (Ok n) piece count ≡ count
no_failure n piece count h1 = grind (arith, suc, zero)

-- what is left to send after some bytes
abbrev pub rest_after : List ℕ → ℕ → List ℕ
rest_after bytes sent = take (length bytes - sent) (drop sent bytes)

-- nothing taken of what is left to send is a failure
pub no_progress : (sent n : ℕ) (bytes : List ℕ) (count : ℕ) → sent < length bytes → n ≡ 0 → failures_after_write {E = Unit} (Ok n) (rest_after bytes sent) count ≡ one_more count
no_progress sent n bytes count h e =
    ap (λ (m : ℕ). failures_after_write {E = Unit} (Ok m) (rest_after bytes sent) count) e
    ∙ ap (λ (r : List ℕ). failures_after_write {E = Unit} (Ok 0) r count) (take_rest bytes sent ∙ drop-cons bytes sent 0 h)

-- more went out
pub sent_on : (bytes : List ℕ) (sent n : ℕ) (a b c : Option (List ℕ)) → Appends a b (take sent bytes) → Appends b c (take n (rest_after bytes sent)) → Appends a c (take (sent + n) bytes)
sent_on bytes sent n a b c h k =
    subst (Appends a c) (sym (take-add sent n bytes))
    (Appends-trans a b c (take sent bytes) (take n (drop sent bytes)) h (subst (λ (r : List ℕ). Appends b c (take n r)) (take_rest bytes sent) k))

-- a front of the bytes went out
pub front_out : (bytes : List ℕ) (sent : ℕ) (a b : Option (List ℕ)) → Appends a b (take sent bytes) → Sends a b bytes (Err WriteFault)
front_out bytes sent a b h = record { output = take sent bytes; written = h; answer = (refl, (drop sent bytes, take-append-drop sent bytes)) }
