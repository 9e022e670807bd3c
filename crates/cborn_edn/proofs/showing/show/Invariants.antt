use Rattle.cborn_edn.proofs.Common.{take, trees, FitsAll, top, no_part, IsHeld}
use Rattle.cborn_edn.proofs.showing.show.Given as goal

abbrev pub invariant-loop-item : goal.invariant-loop-item
invariant-loop-item l = IsHeld l.notator (top (take l.item-index l.items)) no_part × FitsAll (trees (take l.item-index l.items))
