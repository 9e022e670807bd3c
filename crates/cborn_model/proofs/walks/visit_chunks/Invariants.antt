use Rattle.cborn_model.proofs.Common.{map, take, Partial, inside, in_chunks, no_part, IsFree, string_of}
use Rattle.cborn_model.proofs.walks.visit_chunks.Given as goal

abbrev pub invariant-loop-chunk : goal.invariant-loop-chunk
invariant-loop-chunk g l = (f : Partial) → IsFree f → g.V.Visitor.holds l.fn.visitor f no_part → g.V.Visitor.holds l.visitor (inside f (in_chunks l.fn.place l.fn.kind) (map (string_of l.fn.kind) (take l.chunk-index l.chunks))) no_part
