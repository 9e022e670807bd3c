use Rattle.std.specs.Prelude.{◌≡◌, ◌++◌, ◌↔◌}
use Rattle.cborn_judge.proofs.Common.{length, drop, drop_at, ap, ◌∙◌, sym, subst, Some, IsTrue, string_tree, put, no_part, TakesString, IsContent, IsHeld, Written, OpenString, on_ok}
use Rattle.cborn_judge.proofs.encoders.EncoderVisitor.close_string.Goals as goal

pub returns-clause-held : goal.returns-clause-held
returns-clause-held g c = on_ok c.end_string.result (λ held f p k w n x proper takes len (s, y, h, is, a, b, d, e, old, finds).
    let order = g.O.KeyOrder.order in
    let v = c.args.self.now in
    let t = c.in-Some.string in
    let same : s ≡ t = (let i : Some s ≡ Some t = sym is ∙ sym c.take.ensures.value ∙ c.in-Some.is in cc) in
    let at : t.place ≡ p = ap (λ (z : OpenString). z.place) (sym same) ∙ a in
    let kind : t.kind ≡ k = ap (λ (z : OpenString). z.kind) (sym same) ∙ b in
    let width : t.width ≡ w = ap (λ (z : OpenString). z.width) (sym same) ∙ d in
    let long : length x ≡ t.len = len ∙ sym e ∙ ap (λ (z : OpenString). z.len) same in
    let written : Written order v.encodings t f y h x = subst (λ z. Written order v.encodings z f y h x) same old in
    let good : IsTrue c.is_content-is_good.result ↔ IsContent t.kind x = subst (λ z. IsTrue c.is_content-is_good.result ↔ IsContent t.kind z) (c.from_index-written.ensures ∙ ap (drop t.content) (c.deref.ensures.value ∙ written.out) ∙ drop_at (y ++ h) x t.content (sym written.content)) c.is_content-is_good.ensures in
    subst (λ u. IsHeld order c.end_string.new.self (put f u) no_part) (λ i. string_tree (at i) (kind i) (width i) x)
    (held f y h x good (proper, subst (TakesString f) (sym kind) takes, long, written) finds)) c.end_string.ensures.held
