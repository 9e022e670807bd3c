use Rattle.cborn_model.proofs.Common.{arith, subst, map, take_all, inside, in_chunks, no_part, string_of}
use Rattle.cborn_model.proofs.HandedOver.{chunk_over, chunks_over, on_ok}
use Rattle.cborn_model.proofs.walks.visit_chunks.Goals as goal

pub loop-chunk-preserved : goal.loop-chunk-preserved
loop-chunk-preserved g c = λ f free old.
    chunk_over (λ h. g.V.Visitor.holds c.loop-chunk.visitor h no_part) (λ h. g.V.Visitor.holds c.string.new.self h no_part) c.args.kind c.args.chunks.now c.loop-chunk.chunk-index c.chunk-item.result (omega arith) c.chunk-item.is
    (rw c.as_slice.ensures.same at c.in_ok-string.ensures.held) f c.args.place free (c.loop-chunk.invariant f free old)

pub returns-clause-held : goal.returns-clause-held
returns-clause-held g c = on_ok c.close.result (λ close f free old.
    chunks_over (λ h. g.V.Visitor.holds c.loop-chunk.visitor h no_part) (λ h. g.V.Visitor.holds c.close.new.self h no_part) c.args.place c.args.kind c.args.chunks.now close f free
    (subst (λ cs. g.V.Visitor.holds c.loop-chunk.visitor (inside f (in_chunks c.args.place c.args.kind) (map (string_of c.args.kind) cs)) no_part) (take_all c.loop-chunk.chunk-index c.args.chunks.now (omega arith)) (c.loop-chunk.invariant f free old))) c.close.ensures.held
