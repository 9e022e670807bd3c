use Rattle.cborn_edn.proofs.Shown.SameText.{same_notation}
use Rattle.cborn_edn.proofs.RoundTrip.Unplaced.{same_fit, same_depth, same_bytes, same_meaning}
use Rattle.cborn_edn.proofs.laws.places_aside.Goals as goal

pub returns : goal.returns
returns c = record { fits = same_fit; depth = same_depth; bytes = same_bytes; meaning = λ nodes others items e. same_meaning nodes others e items; text = λ nodes others text e. same_notation nodes others text e }
