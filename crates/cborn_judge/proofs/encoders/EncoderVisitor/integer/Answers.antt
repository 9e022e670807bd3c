use Rattle.std.specs.Prelude.{◌≡◌}
use Rattle.cborn_judge.proofs.Common.{rules, inl, length, subst, IsLeastHead, integer_tree, on_ok}
use Rattle.cborn_judge.proofs.Encoding.Leaves.{integer_encoded, integer_place, finds_integer}
use Rattle.cborn_judge.proofs.encoders.EncoderVisitor.integer.Goals as goal

pub returns-clause-held : goal.returns-clause-held
returns-clause-held g c = on_ok c.put.result (λ held f free old.
    let e = c.args.self.now in
    let a = c.args in
    let order = g.O.KeyOrder.order in
    let h = c.in_ok-put_head.ensures.appended in
    let start : c.len-start.result ≡ length e.encodings.out.items = search rules in
    let coded = inl (integer_encoded order a.place a.negative a.width a.n h.0 c.requires (subst (λ m. IsLeastHead m a.n h.0) c.integer_major.ensures h.1)) in (
      held order f (integer_tree a.place a.negative a.width a.n) e.encodings.out.items h.0 free (integer_place a.place a.negative a.width a.n) h.2 start coded old.0,
      finds_integer order f a.place a.negative a.width a.n e.flaw e.defect c.head_defect.result c.keep.new.first c.head_defect.ensures c.keep.ensures old.1,
    )) c.put.ensures.held
