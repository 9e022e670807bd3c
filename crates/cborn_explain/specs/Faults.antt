-- The offset of a fault that is in the content of an input. No other fault has one.
use Rattle.std.specs.Prelude.{ℕ, Option, None, Some}
use Rattle.cborn_wire.specs.declared.faults.WireFault.TheVariants as wire
use Rattle.cborn_lex.specs.declared.faults.LexFault.TheVariants as lex
use Rattle.cborn_edn.specs.declared.faults.EdnFault.TheVariants as edn
use Rattle.cborn_edn.specs.declared.faults.ShowFault.TheVariants as unshown
use Rattle.cborn_judge.specs.declared.faults.Invalid.TheVariants as invalid
use Rattle.cborn_engine.specs.declared.faults.EngineFault.TheVariants as fault
use Rattle.cborn_engine.specs.declared.count_faults.CountFault.{CountFault}
use Rattle.cborn_engine.specs.declared.count_faults.CountFault.TheVariants as counted

abbrev pub place_of : CountFault → Option ℕ
place_of (counted.Engine (fault.Wire (wire.Refused p r))) = Some p
place_of (counted.Engine (fault.Edn (edn.Lex (lex.Refused p r)))) = Some p
place_of (counted.Engine (fault.Edn (edn.Refused p r))) = Some p
place_of (counted.Engine (fault.TextInput p)) = Some p
place_of (counted.Engine (fault.Invalid (invalid.Refused p r))) = Some p
place_of (counted.Engine (fault.Show (unshown.NotUtf8 p))) = Some p
place_of (counted.NoItem p) = Some p
place_of (counted.MoreItems p) = Some p
place_of _ = None
