use Rattle.std.proofs.Common.{rules, refl, sym, ap, ◌∙◌, ◌<◌, ℕ, List, [], length, take, get_or, inr, arith}
use Rattle.std.proofs.lemmas.List.{take_more, get_or_default}
use Rattle.std.proofs.lemmas.Option.{slice_get_read}
use Rattle.std.specs.Borrow.{Bor}
use Rattle.cborn.specs.Words.{plain_count}
use Rattle.cborn.proofs.Words.{plain_option, plain_name}
use Rattle.cborn.proofs.options.may_name_files.Goals as goal
use Rattle.cborn.proofs.options.may_name_files.Goals.{then-not-is_option, else-not-is_option}

abbrev none : Bor (List ℕ)
none = record { ref_ptr = (0, 0); now = [] }

pub returns-then-eq : goal.returns-then-eq
returns-then-eq c = λ e.
    let words = c.args.words.now in
    let i = c.loop-word.word-index in
    let within : i < length words = omega (arith, c.loop-word-test.true) in
    let word = get_or words i none in
    let here = slice_get_read words (length words) i word refl within (get_or_default words i none word within) in
    inr (i, rw here (search rules))

pub loop-word-preserved : goal.loop-word-preserved
loop-word-preserved c =
    let words = c.args.words.now in
    let i = c.loop-word.word-index in
    let more = take_more words i none (omega (arith, c.loop-word-test.true)) in
    let so_far = c.loop-word.invariant in
    elim c.if-not-is_option.branch [
      | then-not-is_option w ↦ (omega (arith, w.count-is, so_far.0, ap plain_count more, plain_name (take i words) (get_or words i none) (sym c.is_option.ensures ∙ w.if-not-is_option.true)), omega (arith, w.count-is, so_far.1))
      | else-not-is_option w ↦ (w.count-is ∙ so_far.0 ∙ sym (ap plain_count more ∙ plain_option (take i words) (get_or words i none) (sym c.is_option.ensures ∙ w.if-not-is_option.false)), omega (arith, w.count-is, so_far.1))
    ]
