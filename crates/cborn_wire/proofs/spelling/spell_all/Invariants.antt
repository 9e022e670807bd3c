use Rattle.cborn_wire.proofs.Common.{take, top, no_part, IsWritten}
use Rattle.cborn_wire.proofs.spelling.spell_all.Given as goal

abbrev pub invariant-loop-item : goal.invariant-loop-item
invariant-loop-item l = IsWritten l.speller (top (take l.item-index l.items)) no_part
