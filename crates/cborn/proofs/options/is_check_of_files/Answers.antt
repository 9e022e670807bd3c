use Rattle.std.proofs.Common.{rules, length, refl, sym}
use Rattle.std.proofs.lemmas.Bool.{ltb-true}
use Rattle.std.proofs.lemmas.Option.{slice_get_read}
use Rattle.cborn.proofs.options.is_check_of_files.Goals as goal

pub returns-then-eq : goal.returns-then-eq
returns-then-eq c = λ e.
    let words = c.args.words.now in
    let second = slice_get_read words (length words) 1 c.in-Some.name.now refl (ltb-true 1 (length words) (sym c.in-Some.ensures.lookup.0)) c.in-Some.ensures.lookup.1 in
    (rw second (search rules), c.may_name_files.ensures e)
