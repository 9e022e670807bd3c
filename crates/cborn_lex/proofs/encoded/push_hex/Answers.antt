use Rattle.cborn_lex.proofs.Common.{sym, ◌∙◌, refl}
use Rattle.cborn_lex.proofs.Contents.Hexes.{digits_alone, hex_no_digits, hex_none, hex_written}
use Rattle.cborn_lex.proofs.encoded.push_hex.Goals as goal

pub returns-then-all_digits-clause-written : goal.returns-then-all_digits-clause-written
returns-then-all_digits-clause-written c = hex_written c.args.content.now _ _ c.args.out.now.items c.push_digits.new.out.items c.push_digits.result (digits_alone c.args.content.now (sym c.all_digits.ensures ∙ c.if-all_digits.true)) refl c.push_digits.ensures.written

pub returns-then-all_digits-clause-none : goal.returns-then-all_digits-clause-none
returns-then-all_digits-clause-none c = hex_none c.args.content.now _ _ c.push_digits.result (digits_alone c.args.content.now (sym c.all_digits.ensures ∙ c.if-all_digits.true)) refl c.push_digits.ensures.none

pub returns-in-Some-clause-written : goal.returns-in-Some-clause-written
returns-in-Some-clause-written c = hex_written c.args.content.now c.in-Some.digits.items c.as_slice.result.now c.args.out.now.items c.push_digits-in-Some.new.out.items c.push_digits-in-Some.result (rw c.in-Some.is at c.in_ok-digits.ensures) c.as_slice.ensures.value c.push_digits-in-Some.ensures.written

pub returns-in-Some-clause-none : goal.returns-in-Some-clause-none
returns-in-Some-clause-none c = hex_none c.args.content.now c.in-Some.digits.items c.as_slice.result.now c.push_digits-in-Some.result (rw c.in-Some.is at c.in_ok-digits.ensures) c.as_slice.ensures.value c.push_digits-in-Some.ensures.none

pub returns-in-None-clause-none : goal.returns-in-None-clause-none
returns-in-None-clause-none c = λ e. hex_no_digits c.args.content.now (rw c.in-None.is at c.in_ok-digits.ensures)
