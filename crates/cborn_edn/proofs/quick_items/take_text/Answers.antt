use Rattle.std.specs.Prelude.{◌≡◌, ◌+◌, ◌-◌}
use Rattle.cborn_edn.proofs.Common.{refl, sym, ◌∙◌, subst, List, ℕ, length, take, drop, rules, arith, take-append_seam, drop-append_seam, IsTextAt, IsUtf8, Absent, Writer, Reads, Span, string, piece, text, wants, has}
use Rattle.cborn_edn.proofs.Lemmas.{same_read, went, text_taken}
use Rattle.cborn_edn.proofs.quick_items.take_text.Goals as goal

pub returns-in-Some : goal.returns-in-Some
returns-in-Some g c =
    let at = c.args.here.now.at in
    let len = c.in-Some.len in
    let stop = c.in-Some.stop in
    let bytes = c.as_bytes-bytes.result.now in
    let size : len ≡ at + 1 + len - (at + 1) = omega arith in
    let found = subst (λ n. IsTextAt c.args.source.profile bytes at stop (take n (drop (at + 1) bytes))) size c.in-Some.ensures.taken in
    went (text_taken c.requires.wanting.0 c.as_bytes-bytes.ensures.value stop found c.put_text.new.here c.put_text.new.writer c.requires.wanting.2 (λ st utf8 e. c.in_ok-put_text.ensures.read st (record { start = at; stop = found.stop }) refl utf8 e))

pub returns : goal.returns
returns g c =
    let w = c.args.writer.now in
    let here = c.args.here.now in
    let found = c.in_ok-push_text.ensures.taken c.if-not-branch.false in
    let x = found.0 in
    let a : Span = record { start = here.at; stop = found.2.stop } in
    let mid : Writer = record w { pieces = c.push_text.new.out } in
    let from : c.len-start.result ≡ length w.pieces.items = search rules in
    let old : take c.len-start.result mid.pieces.items ≡ w.pieces.items = (λ i. take (from i) (found.1 i)) ∙ take-append_seam w.pieces.items x in
    let content : drop c.len-start.result mid.pieces.items ≡ x = (λ i. drop (from i) (found.1 i)) ∙ drop-append_seam w.pieces.items x in
    went (text_taken c.requires.wanting.0 c.as_bytes-bytes.ensures.value c.push_text.new.at found.2 c.put_last_piece.new.here c.put_last_piece.new.writer c.requires.wanting.2
    (λ st utf8 r. subst (λ (y : List ℕ). Reads (g.V.Visitor.holds c.put_last_piece.new.visitor) c.put_last_piece.new.here c.put_last_piece.new.writer c.put_last_piece.new.writer.pieces.items (has st (string (piece (text a y Absent))))) content
    (c.in_ok-put_last_piece.ensures.read st a refl (subst IsUtf8 (sym content) utf8) (subst (λ (y : List ℕ). Reads (g.V.Visitor.holds c.args.visitor.now) here mid y (wants st)) (sym old) (same_read here w mid w.pieces.items (wants st) r)))))
