use Rattle.cborn_lex.proofs.Common.{sym, ◌∙◌}
use Rattle.cborn_lex.proofs.Decimals.{long_value}
use Rattle.cborn_lex.proofs.integers.any_integer.Goals as goal

pub returns-then-not-begins_numeral-clause-value : goal.returns-then-not-begins_numeral-clause-value
returns-then-not-begins_numeral-clause-value c =
    c.value.ensures
    ∙ sym (long_value c.args.negative c.digits_len-digits.result c.args.body.now c.if-digits-gt0.true c.digits_len-digits.ensures.within c.if-body-ne48.true c.digits_len-digits.ensures.digits)
