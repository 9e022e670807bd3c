-- A lower fault as the engine gives it: out of memory is its own.
use Rattle.cborn_wire.specs.declared.WireFault.{WireFault}
use Rattle.cborn_wire.specs.declared.WireFault.TheVariants as wire
use Rattle.cborn_engine.specs.Common.{LexFault, EdnFault, ShowFault, Invalid, InputFault, EngineFault}

abbrev pub of_input : InputFault → EngineFault
of_input InputFault.ReadFault = EngineFault.ReadFault
of_input InputFault.TooLong = EngineFault.TooLong
of_input InputFault.OutOfMemory = EngineFault.OutOfMemory

abbrev pub of_wire : WireFault → EngineFault
of_wire (wire.Refused p r) = EngineFault.Wire (wire.Refused p r)
of_wire wire.OutOfMemory = EngineFault.OutOfMemory

abbrev pub of_edn : EdnFault → EngineFault
of_edn (EdnFault.Lex (LexFault.Refused p r)) = EngineFault.Edn (EdnFault.Lex (LexFault.Refused p r))
of_edn (EdnFault.Lex LexFault.OutOfMemory) = EngineFault.OutOfMemory
of_edn (EdnFault.Refused p r) = EngineFault.Edn (EdnFault.Refused p r)
of_edn EdnFault.OutOfMemory = EngineFault.OutOfMemory

abbrev pub of_show : ShowFault → EngineFault
of_show (ShowFault.NotUtf8 p) = EngineFault.Show (ShowFault.NotUtf8 p)
of_show ShowFault.OutOfMemory = EngineFault.OutOfMemory

abbrev pub of_invalid : Invalid → EngineFault
of_invalid (Invalid.Refused p r) = EngineFault.Invalid (Invalid.Refused p r)
of_invalid Invalid.OutOfMemory = EngineFault.OutOfMemory
