use Rattle.std.specs.Prelude.{◌≡◌, ◌+◌, ◌<◌, ◌^◌, ◌++◌, ◌∷◌}
use Rattle.cborn_judge.proofs.Common.{rules, [], length, take, drop, false, ap, refl, sym, subst, ◌∙◌, append_assoc, length-append, length-drop, arith, take-append-drop, IsTrue, IsUtf8, put, place, after, marks_of, some_bytes}
use Rattle.cborn_judge.proofs.Encoding.Leaves.{finds_fine, short_leaf}
use Rattle.cborn_judge.proofs.Encoding.Standing.{stands_pair, stands_same}
use Rattle.cborn_judge.proofs.encoders.EncoderVisitor.pair.Goals as goal

pub returns-clause-taken : goal.returns-clause-taken
returns-clause-taken g c = λ is f k v free at both old.
    let order = g.O.KeyOrder.order in
    let e = c.args.self.now in
    let s = e.encodings in
    let n = c.args.pair.key_len in
    let x = c.args.pair.spelled.now in
    let y = s.out.items in
    let a = take n x in
    let b = drop n x in
    let new = c.extend_from_slice.new.self.items in
    let marks = marks_of s.pairs in
    let good_key : IsTrue c.is_text.result = search rules in
    let good_value : IsTrue c.is_text-else-not-is_text.result = search rules in
    let key = short_leaf order c.args.place a k both.key (subst IsUtf8 both.key_text (c.is_text.ensures.0 good_key)) in
    let value = short_leaf order (c.args.place + n) b v both.value (subst IsUtf8 both.value_text (c.is_text-else-not-is_text.ensures.0 good_value)) in
    let whole : new ≡ (y ++ a) ++ b = c.in_ok-extend_from_slice.ensures.items ∙ ap (λ z. y ++ z) (sym (take-append-drop n x)) ∙ sym (append_assoc y a b) in
    let start : c.len-start.result ≡ length y = search rules in
    let end : c.len-end.result ≡ length new = search rules in
    let short : c.len-end.result < 2 ^ 64 = search rules in
    let middle : c.saturating_add-middle.result ≡ length (y ++ a) =
    omega (arith, c.saturating_add-middle.ensures, start, end, short, ap length whole, some_bytes order value.0.0 b value.0.3, length-drop n x, ap length (take-append-drop n x), length-append a b, length-append y a, length-append (y ++ a) b) in (
      stands_same order s.outer.items s.outer.items (after (after s.innermost false) false) c.add-2.new.self (put (put f k) v) (marks ++ (place k, length y, length (y ++ a), length ((y ++ a) ++ b)) ∷ []) (marks_of c.push_pair.new.self) ((y ++ a) ++ b) new
          refl (c.add-2.ensures ∙ ap (λ l. after l false) c.add.ensures) (c.in_ok-push_pair.ensures ∙ (λ i. marks ++ (sym both.key.placed i, start i, middle i, (end ∙ ap length whole) i) ∷ [])) whole
          (stands_pair order s.outer.items s.innermost f k v marks y a b at key.0 value.0 old.0),
      finds_fine order (put f k) v e.flaw e.defect value.1 value.2 (finds_fine order f k e.flaw e.defect key.1 key.2 old.1),
    )
