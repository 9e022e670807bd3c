use Rattle.std.specs.Prelude.{◌∷◌}
use Rattle.cborn_edn.proofs.Common.{refl, Some, []}
use Rattle.cborn_edn.proofs.Meaning.Earliest.{earlier_noted}
use Rattle.cborn_edn.proofs.meaning_errors.note.Goals as goal

pub returns : goal.returns
returns c = earlier_noted c.args.error.now c.earlier.result (Some (record { place = c.args.place; reason = c.args.reason })) (record { place = c.args.place; reason = c.args.reason } ∷ []) refl c.earlier.ensures
