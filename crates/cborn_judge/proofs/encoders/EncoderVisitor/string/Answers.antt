use Rattle.std.specs.Prelude.{◌≡◌, ◌↔◌}
use Rattle.cborn_judge.proofs.Common.{[], length, refl, sym, subst, IsTrue, string_tree, put, no_part, TakesString, Finds, IsContent, IsHeld, are_bytes, on_ok}
use Rattle.cborn_judge.proofs.Encoding.Leaves.{written_more}
use Rattle.cborn_judge.proofs.encoders.EncoderVisitor.string.Goals as goal

pub returns-clause-held : goal.returns-clause-held
returns-clause-held g c = on_ok c.end_string.result (λ held f proper takes old.
    let order = g.O.KeyOrder.order in
    let e = c.args.self.now in
    let bytes = c.args.bytes.now in
    let opened = c.begin_string.new.self in
    let s = c.in_ok-string.string in
    let is = c.in_ok-string.ensures.string in
    let rest = c.begin_string.ensures.rest in
    let (h, w) = c.in_ok-string.ensures.written f old.0 in
    let y = e.encodings.out.items in
    let long : length bytes ≡ s.len = sym is.3 in
    let good : IsTrue c.is_content-is_good.result ↔ IsContent s.kind bytes = subst (λ k. IsTrue c.is_content-is_good.result ↔ IsContent k bytes) (sym is.1) c.is_content-is_good.ensures in
    let finds : Finds order f opened.flaw opened.defect = subst (λ a. Finds order f a opened.defect) (sym rest.0) (subst (λ d. Finds order f e.flaw d) (sym rest.1) old.1) in
    subst (λ u. IsHeld order c.end_string.new.self (put f u) no_part) (λ i. string_tree (is.0 i) (is.1 i) (is.2 i) bytes)
    (held f y h bytes good (
      proper,
      subst (TakesString f) (sym is.1) takes,
      long,
      written_more order opened.encodings _ s f y h [] bytes w c.in_ok-extend_from_slice.ensures.items refl w.stands (are_bytes bytes c.type_inv.bytes),
    ) finds)) c.end_string.ensures.held
