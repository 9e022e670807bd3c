-- What an answer is worth: all that the headline says of it, at once.
use Rattle.std.specs.Prelude.{◌≤◌}
use Rattle.cborn_engine.proofs.Common.{ℕ, List, length, sym, subst, Ordering, Option, Result, Ok, Err, OnOk, Consumes, Appends, IsKeyOrder, CountFault, Count, Kind, Canon, IsCanonical, IsNormalForm, NormalisesCount, most_bytes}
use Rattle.cborn_engine.proofs.Canonical.Canonicity.{reads_back, alone, one_for_same, own_form, again}
use Rattle.cborn_engine.proofs.Held.Meant.{all_turned}

module _ (order : List ℕ → List ℕ → Ordering) (laws : IsKeyOrder order) (k out : Kind) (limit : ℕ) where
  pub normal_form : (x w : List ℕ) → length x ≤ most_bytes → IsCanonical order k out limit x w → IsNormalForm order k out limit x w
  normal_form x w short a =
      let back = reads_back order laws k out limit x w short a in
      record {
        items = a.items;
        held = a.held;
        one = λ v. (λ d. alone order laws k out limit x w short a v d, λ e. subst (Canon order out a.items) (sym e) a.written);
        alike = one_for_same order laws k out limit x w short a;
        kept = (back.0, back.1, all_turned back.0 a.items back.2);
        again = λ v. (λ b. again order laws k out limit x w short a v b, λ e. subst (IsCanonical order out out limit w) (sym e) (own_form order laws k out limit x w short a));
      }

  -- of what was read and written
  pub written : (count : Count) (before after sent sent_after : Option (List ℕ)) (r : Result Unit CountFault) → NormalisesCount count order k out limit most_bytes before after sent sent_after r → OnOk r ((input : List ℕ) × (output : List ℕ) × Consumes before after input × Appends sent sent_after output × IsNormalForm order k out limit input output)
  written count before after sent sent_after (Ok u) h = (h.read.input, h.output, h.read.taken, h.given, normal_form h.read.input h.output h.read.answer.0.0 h.read.answer.0.1)
  written count before after sent sent_after (Err why) h = tt
