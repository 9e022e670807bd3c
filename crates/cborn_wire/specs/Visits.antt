-- The fault of a visit, as calls give it that tell out of memory by a variant alone.
use Rattle.cborn_wire.specs.declared.faults.WireFault.{WireFault}
use Rattle.cborn_wire.specs.declared.faults.WireFault.TheVariants as wire
use Rattle.cborn_wire.specs.declared.faults.VisitFault.{VisitFault}
use Rattle.cborn_wire.specs.declared.faults.VisitFault.TheVariants.{Refused, Memory}

abbrev pub wire_fault : VisitFault → WireFault
wire_fault (Refused p r) = wire.Refused p r
wire_fault (Memory refused) = wire.OutOfMemory
