-- What is shown of an input spells the bytes that the input spells.
use Rattle.std.specs.Prelude.{◌≤◌}
use Rattle.cborn_engine.proofs.Common.{ℕ, List, length, refl, Option, Result, Ok, Err, OnOk, Consumes, Appends, trees, Wellformed, spelled_all, CountFault, Count, Kind, IsShown, SpellSameBytes, ShowsCount, most_bytes}
use Rattle.cborn_engine.proofs.Canonical.Canonicity.{spelled_fits}
use Rattle.cborn_engine.proofs.Held.ShownBack.{shown_as_bytes}

module _ (k out : Kind) (limit : ℕ) where
  pub same_bytes : (x v : List ℕ) → length x ≤ most_bytes → IsShown k out limit x v → SpellSameBytes k out limit x v
  same_bytes x v short s =
      let bytes : List ℕ = spelled_all (trees s.nodes) in
      let f = spelled_fits k limit x s.nodes short s.spelled in
      let whole : Wellformed limit (trees s.nodes) bytes = record { spells = refl; fit = f.0; shallow = f.1 } in
      record {
        bytes = bytes;
        read = record { nodes = s.nodes; spelled = s.spelled; shown = refl };
        written = shown_as_bytes out limit bytes v (record { nodes = s.nodes; spelled = whole; shown = s.shown });
      }

  -- of what was read and written
  pub written : (count : Count) (before after sent sent_after : Option (List ℕ)) (r : Result Unit CountFault) → ShowsCount count k out limit most_bytes before after sent sent_after r → OnOk r ((input : List ℕ) × (output : List ℕ) × Consumes before after input × Appends sent sent_after output × SpellSameBytes k out limit input output)
  written count before after sent sent_after (Ok u) h = (h.read.input, h.output, h.read.taken, h.given, same_bytes h.read.input h.output h.read.answer.0.0 h.read.answer.0.1)
  written count before after sent sent_after (Err why) h = tt
