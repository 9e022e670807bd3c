use Rattle.cborn_edn.proofs.Short.Facts.{one_notation, larger, both_notate}
use Rattle.cborn_edn.proofs.laws.one_notation.Goals as goal

pub returns : goal.returns
returns c = record { one = one_notation; larger = larger; both = both_notate }
