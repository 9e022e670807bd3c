use Rattle.std.specs.Prelude.{◌+◌, ◌-◌, ◌*◌, ◌≡◌}
use Rattle.cborn_lex.proofs.Common.{sym, ap, ◌∙◌, arith, inr, get_or, false≢true, eq-eqb, eqb-true, ltb-true}
use Rattle.cborn_lex.proofs.Decimals.{digit_more, digit_numeral, below_more, fits_more, decimal_value, decimal_run, no_decimal}
use Rattle.cborn_lex.proofs.integers.decimal_at.Goals as goal
use Rattle.cborn_lex.proofs.integers.decimal_at.Goals.{then-len-eq0-via-then-len-eq0, then-len-eq0-via-else-len-eq0+then-tail-eq48, else-len-tail-via-then-len-tail+else-continues_number, else-len-tail-via-else-len-tail, then-len-gt1, else-len-gt1}

pub overflow_mul-n : goal.overflow_mul-n
overflow_mul-n c =
    let f = fits_more c.digits.n c.digits.len c.digits.invariant.4 (omega (arith, c.if-len-eq19.false, c.digits.invariant.1)) in
    omega (arith, f)

pub overflow_add-n : goal.overflow_add-n
overflow_add-n c =
    let f = fits_more c.digits.n c.digits.len c.digits.invariant.4 (omega (arith, c.if-len-eq19.false, c.digits.invariant.1)) in
    omega (arith, f, c.in-Some.ensures.digit.2)

pub digits-preserved : goal.digits-preserved
digits-preserved c =
    let h = c.in-Some.ensures.digit in
    let d = c.in-Some.digit in
    let n = c.digits.n in
    let here = get_or c.args.tail.now c.digits.len 0 in
    let same : here - 48 ≡ d = omega (arith, h.1) in
    let m = digit_more n c.digits.len c.args.tail.now h.0 (omega (arith, h.1)) (omega (arith, h.1, h.2)) c.digits.invariant.2 c.digits.invariant.3 in
    (omega (arith, h.0), omega (arith, c.if-len-eq19.false, c.digits.invariant.1), m.0, m.1 ∙ ap (λ k. n * 10 + k) same, below_more n c.digits.len d c.digits.invariant.4 h.2)

pub returns-then-len-eq19-clause-none : goal.returns-then-len-eq19-clause-none
returns-then-len-eq19-clause-none c =
    let h = c.in-Some.ensures.digit in
    no_decimal c.digits.len c.args.tail.now c.digits.invariant.0 c.digits.invariant.2 (λ l k. absurd (omega (arith, l, c.if-len-eq19.true))) (inr (inr (h.0, digit_numeral (get_or c.args.tail.now c.digits.len 0) c.in-Some.digit h.1 h.2)))

pub returns-then-len-eq0-clause-none : goal.returns-then-len-eq0-clause-none
returns-then-len-eq0-clause-none c = grind (arith, else-len-gt1, eqb-true, ltb-true, no_decimal, then-len-eq0-via-else-len-eq0+then-tail-eq48, then-len-eq0-via-then-len-eq0, then-len-gt1)

pub returns-then-continues_number-clause-none : goal.returns-then-continues_number-clause-none
returns-then-continues_number-clause-none c = grind (arith, no_decimal)

pub returns-clause-run : goal.returns-clause-run
returns-clause-run c = decimal_run c.digits.len c.args.tail.now c.digits.invariant.2 (λ h. elim c.else-len-tail.branch [
  | else-len-tail-via-then-len-tail+else-continues_number w ↦ sym w.continues_number.ensures ∙ w.if-continues_number.false
  | else-len-tail-via-else-len-tail w ↦ absurd (omega (arith, h, w.if-len-tail.false))
])

pub returns-clause-value : goal.returns-clause-value
returns-clause-value c = λ negative. decimal_value negative c.digits.n c.digits.len c.args.tail.now c.if-len-eq0.false c.digits.invariant.0 (omega arith) c.digits.invariant.2 c.digits.invariant.3 (λ h e. elim c.if-len-gt1.branch [
  | then-len-gt1 w ↦ false≢true (sym c.if-tail-eq48.false ∙ w.value-is ∙ eq-eqb _ 48 e)
  | else-len-gt1 w ↦ absurd (omega (arith, h, w.if-len-gt1.false))
])
