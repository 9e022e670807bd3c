use Rattle.cborn_edn.proofs.Short.Facts.{some_text, no_error, notated_fits}
use Rattle.cborn_edn.proofs.laws.short_text.Goals as goal

pub returns : goal.returns
returns c = record { answered = some_text; no_error = λ p limit most text ts q r h. no_error p limit most text ts h q r; fits = notated_fits }
