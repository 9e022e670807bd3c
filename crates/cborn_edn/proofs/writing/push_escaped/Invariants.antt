use Rattle.cborn_edn.proofs.Shown.Escapes.{Written}
use Rattle.cborn_edn.proofs.writing.push_escaped.Given as goal

abbrev pub invariant-loop-i : goal.invariant-loop-i
invariant-loop-i l = Written l.initial.out.items l.out.items l.text l.from l.i
