use Rattle.std.specs.Prelude.{◌≡◌}
use Rattle.cborn_judge.proofs.Common.{rules, inl, length, refl, subst, IsLeastHead, Simple, on_ok}
use Rattle.cborn_judge.proofs.Encoding.Leaves.{simple_encoded, sound_simple, simple_defect, finds_fine}
use Rattle.cborn_judge.proofs.encoders.EncoderVisitor.simple.Goals as goal

pub returns-clause-held : goal.returns-clause-held
returns-clause-held g c = on_ok c.put.result (λ held f free old.
    let e = c.args.self.now in
    let a = c.args in
    let order = g.O.KeyOrder.order in
    let h = c.in_ok-put_head.ensures.appended in
    let start : c.len-start.result ≡ length e.encodings.out.items = search rules in
    let head : IsLeastHead 7 a.n h.0 = subst (λ n. IsLeastHead 7 n h.0) c.from.ensures h.1 in
    (held order f (Simple a.place a.n) e.encodings.out.items h.0 free refl h.2 start (inl (simple_encoded order a.place a.n h.0 c.requires head)) old.0, finds_fine order f (Simple a.place a.n) e.flaw e.defect (sound_simple order a.place a.n) (simple_defect order a.place a.n) old.1)) c.put.ensures.held
