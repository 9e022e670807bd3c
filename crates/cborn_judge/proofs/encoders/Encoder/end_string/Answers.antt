use Rattle.std.specs.Prelude.{◌≡◌, ◌++◌}
use Rattle.cborn_judge.proofs.Common.{[], refl, ap, ◌∙◌, sym, subst, true, false, append_assoc, append-nil, string_tree, put, not, after, kept, IsStringFront, is_chunks, marks_of, on_ok}
use Rattle.cborn_judge.proofs.Encoding.Leaves.{finds_string, no_chunks, string_coded, chunk_there, string_place}
use Rattle.cborn_judge.proofs.Encoding.Standing.{stands_chunk, stands_same}
use Rattle.cborn_judge.proofs.encoders.Encoder.end_string.Goals as goal

pub returns-then-is_chunks : goal.returns-then-is_chunks
returns-then-is_chunks g c = record {
  held = λ f y h x is ended finds.
      let order = g.O.KeyOrder.order in
      let e = c.args.self.now in
      let old = e.encodings in
      let new = c.cut.new.self in
      let s = c.args.string in
      let good = c.args.is_good in
      let w = ended.3 in
      let rest = c.cut.ensures.rest in
      let chunks : is_chunks old.innermost ≡ true = ap is_chunks (sym rest.0) ∙ sym c.is_chunks.ensures ∙ c.if-is_chunks.true in
      let none : h ≡ [] = subst (λ b. IsStringFront b s.kind s.len h) chunks w.front in
      let out : old.out.items ≡ y ++ x = w.out ∙ (λ i. (y ++ none i) ++ x) ∙ ap (λ z. z ++ x) (append-nil y) in
      let cut = c.cut.ensures.cut y x out w.start in
      let stands = stands_same order old.outer.items new.outer.items old.innermost new.innermost f (marks_of old.pairs) (marks_of new.pairs) y y (ap (λ v. v.items) rest.1) rest.0 (ap marks_of rest.2) refl w.stands in
      let t = string_tree s.place s.kind s.width x in
      let marks = marks_of new.pairs in (
        stands_same order new.outer.items new.outer.items (after new.innermost (not good)) c.add.new.self (put f t) marks marks (y ++ kept good x) new.out.items refl c.add.ensures refl cut
            (stands_chunk order new.outer.items new.innermost f t marks y (kept good x) (not good) (chunk_there order new.outer.items new.innermost f marks y s.place s.kind s.width x good stands (sym c.is_chunks.ensures ∙ c.if-is_chunks.true) ended.1 is) stands),
        finds_string order f s.place s.kind s.width s.len x good e.flaw c.text_flaw.result c.keep.new.first e.defect c.head_defect.result c.keep-2.new.first ended.2 is c.text_flaw.ensures c.head_defect.ensures c.keep.ensures c.keep-2.ensures finds,
      );
}

pub returns : goal.returns
returns g c = record {
  held = on_ok c.put.result (λ held f y h x is ended finds.
      let order = g.O.KeyOrder.order in
      let e = c.args.self.now in
      let old = e.encodings in
      let new = c.cut.new.self in
      let s = c.args.string in
      let good = c.args.is_good in
      let w = ended.3 in
      let rest = c.cut.ensures.rest in
      let chunks : is_chunks old.innermost ≡ false = ap is_chunks (sym rest.0) ∙ sym c.is_chunks.ensures ∙ c.if-is_chunks.false in
      let front : IsStringFront false s.kind s.len h = subst (λ b. IsStringFront b s.kind s.len h) chunks w.front in
      let cut = c.cut.ensures.cut y (h ++ x) (w.out ∙ append_assoc y h x) w.start in
      let stands = stands_same order old.outer.items new.outer.items old.innermost new.innermost f (marks_of old.pairs) (marks_of new.pairs) y y (ap (λ v. v.items) rest.1) rest.0 (ap marks_of rest.2) refl w.stands in (
        held order f (string_tree s.place s.kind s.width x) y (kept good (h ++ x)) (ended.0, no_chunks order old.outer.items old.innermost f (marks_of old.pairs) y w.stands chunks) (string_place s.place s.kind s.width x) cut w.start
            (string_coded order s.place s.kind s.width s.len h x good front ended.2 w.short w.bytes is) stands,
        finds_string order f s.place s.kind s.width s.len x good e.flaw c.text_flaw.result c.keep.new.first e.defect c.head_defect.result c.keep-2.new.first ended.2 is c.text_flaw.ensures c.head_defect.ensures c.keep.ensures c.keep-2.ensures finds,
      )) c.put.ensures.held;
}
