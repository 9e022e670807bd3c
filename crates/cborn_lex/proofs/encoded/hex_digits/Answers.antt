use Rattle.std.specs.Prelude.{◌+◌}
use Rattle.cborn_lex.proofs.Common.{arith, refl, sym, ap, ◌∙◌, false, true, not, eqb, get_or, drop, nat_lt, append-nil, lt-ltb, le-ltb, cond-false, ne_eqb, drop_more, strip, after, is_digit, cond-true, is_white, eq-eqb}
use Rattle.cborn_lex.proofs.Contents.Hexes.{after_none, at_inside, at_digit, at_end, moved}
use Rattle.cborn_lex.proofs.encoded.hex_digits.Goals as goal
use Rattle.cborn_lex.proofs.encoded.hex_digits.Goals.{then-inside, else-inside+then-digit_of-lt16+in_ok-push, else-inside+else-digit_of-lt16+then-c-eq47, else-inside+else-digit_of-lt16+else-c-eq47+else-not-is_white, then-inside-2, else-inside-2}

pub loop-c-init : goal.loop-c-init
loop-c-init c = ap (λ ds. after ds (strip false c.args.content.now)) c.in_ok-digits.ensures.items ∙ after_none (strip false c.args.content.now)

pub loop-c-preserved : goal.loop-c-preserved
loop-c-preserved c =
    let x = c.args.content.now in
    let k = c.loop-c.c-index in
    let b = get_or x k 0 in
    let z = drop (k + 1) x in
    let ds = c.loop-c.digits.items in
    let es = c.if-inside.digits.items in
    elim c.if-inside.branch [
      | then-inside w ↦ moved x ds es k c.loop-c.inside c.if-inside.inside true (not (eqb b 47)) c.loop-c-test.true w.if-inside.true w.inside-is (at_inside ds z b ∙ ap (λ v. after v.items (strip (not (eqb b 47)) z)) (sym w.digits-is)) c.loop-c.invariant
      | else-inside+then-digit_of-lt16+in_ok-push w ↦
          let is = ap (λ n. nat_lt n 16) (sym w.digit_of.ensures) ∙ lt-ltb w.digit_of.result 16 w.if-digit_of-lt16.true in
          moved x ds es k c.loop-c.inside c.if-inside.inside false false c.loop-c-test.true w.if-inside.false (w.inside-is ∙ w.if-inside.false) (at_digit ds z b is ∙ ap (λ l. after l (strip false z)) (sym (ap (λ v. v.items) w.digits-is ∙ w.in_ok-push.ensures.items))) c.loop-c.invariant
      | else-inside+else-digit_of-lt16+then-c-eq47 w ↦
          let no = ap (λ n. nat_lt n 16) (sym w.digit_of.ensures) ∙ le-ltb w.digit_of.result 16 w.if-digit_of-lt16.false in
          moved x ds es k c.loop-c.inside c.if-inside.inside false true c.loop-c-test.true w.if-inside.false w.inside-is ((ap (after ds) (cond-false (is_digit b 16) _ _ no ∙ (cond-false (is_white b) _ _ (rw w.if-c-eq47.true refl) ∙ cond-true (eqb b 47) _ _ (eq-eqb b 47 w.if-c-eq47.true)))) ∙ ap (λ v. after v.items (strip true z)) (sym w.digits-is)) c.loop-c.invariant
      | else-inside+else-digit_of-lt16+else-c-eq47+else-not-is_white w ↦
          let no = ap (λ n. nat_lt n 16) (sym w.digit_of.ensures) ∙ le-ltb w.digit_of.result 16 w.if-digit_of-lt16.false in
          moved x ds es k c.loop-c.inside c.if-inside.inside false false c.loop-c-test.true w.if-inside.false (w.inside-is ∙ w.if-inside.false) ((ap (after ds) (cond-false (is_digit b 16) _ _ no ∙ cond-true (is_white b) _ _ (sym w.is_white.ensures ∙ w.if-not-is_white.false))) ∙ ap (λ v. after v.items (strip false z)) (sym w.digits-is)) c.loop-c.invariant
    ]

pub returns : goal.returns
returns c = grind (arith, append-nil, at_end, else-inside-2, then-inside-2)

pub returns-then-not-is_white : goal.returns-then-not-is_white
returns-then-not-is_white c = grind (arith, cond-false, drop_more, le-ltb, nat_lt, ne_eqb)
