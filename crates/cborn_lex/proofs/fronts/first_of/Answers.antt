use Rattle.cborn_lex.proofs.Common.{refl, [], sym, subst, List, ℕ, take, drop, get_or, arith, rules, false, take_more, Start, ReadsFrom, ReadsNumber, front_view}
use Rattle.cborn_lex.specs.declared.classes.Kind.TheVariants as kinds
use Rattle.cborn_lex.specs.declared.fronts.Front.TheVariants as fronts
use Rattle.cborn_lex.proofs.TwoParts.{from_plain, nothing_appended, digit_starts, quoted_from}
use Rattle.cborn_lex.proofs.fronts.first_of.Goals as goal

pub returns-in-44 : goal.returns-in-44
returns-in-44 c = rw (← c.rest_of-tail.ensures) (from_plain c.args.profile (get_or c.args.text.now 0 0) 44 0 c.args.number.now c.rest_of-tail.result.now c.args.out.now.items (fronts.Read kinds.Comma) c.in-44.is (omega arith) (refl, refl))

pub returns-in-58 : goal.returns-in-58
returns-in-58 c = rw (← c.rest_of-tail.ensures) (from_plain c.args.profile (get_or c.args.text.now 0 0) 58 0 c.args.number.now c.rest_of-tail.result.now c.args.out.now.items (fronts.Read kinds.Colon) c.in-58.is (omega arith) (refl, refl))

pub returns-in-93 : goal.returns-in-93
returns-in-93 c = rw (← c.rest_of-tail.ensures) (from_plain c.args.profile (get_or c.args.text.now 0 0) 93 0 c.args.number.now c.rest_of-tail.result.now c.args.out.now.items (fronts.Read kinds.ArrayClose) c.in-93.is (omega arith) (refl, refl))

pub returns-in-125 : goal.returns-in-125
returns-in-125 c = rw (← c.rest_of-tail.ensures) (from_plain c.args.profile (get_or c.args.text.now 0 0) 125 0 c.args.number.now c.rest_of-tail.result.now c.args.out.now.items (fronts.Read kinds.MapClose) c.in-125.is (omega arith) (refl, refl))

pub returns-in-41 : goal.returns-in-41
returns-in-41 c = rw (← c.rest_of-tail.ensures) (from_plain c.args.profile (get_or c.args.text.now 0 0) 41 0 c.args.number.now c.rest_of-tail.result.now c.args.out.now.items (fronts.Read kinds.ParenClose) c.in-41.is (omega arith) (refl, refl))

pub returns-in-91 : goal.returns-in-91
returns-in-91 c = rw (← c.rest_of-tail.ensures) (from_plain c.args.profile (get_or c.args.text.now 0 0) 91 c.bracket.result.1 c.args.number.now c.rest_of-tail.result.now c.args.out.now.items c.bracket.result.0 c.in-91.is c.bracket.ensures.within (c.bracket.ensures.run, c.bracket.ensures.array c.args.number.now refl))

pub returns-in-123 : goal.returns-in-123
returns-in-123 c = rw (← c.rest_of-tail.ensures) (from_plain c.args.profile (get_or c.args.text.now 0 0) 123 c.bracket-in-123.result.1 c.args.number.now c.rest_of-tail.result.now c.args.out.now.items c.bracket-in-123.result.0 c.in-123.is c.bracket-in-123.ensures.within (c.bracket-in-123.ensures.run, c.bracket-in-123.ensures.map c.args.number.now refl))

pub returns-in-40 : goal.returns-in-40
returns-in-40 c = rw (← c.rest_of-tail.ensures) (from_plain c.args.profile (get_or c.args.text.now 0 0) 40 c.bracket-in-40.result.1 c.args.number.now c.rest_of-tail.result.now c.args.out.now.items c.bracket-in-40.result.0 c.in-40.is c.bracket-in-40.ensures.within (c.bracket-in-40.ensures.run, c.bracket-in-40.ensures.paren c.args.number.now refl))

pub returns-in-60 : goal.returns-in-60
returns-in-60 c = rw (← c.rest_of-tail.ensures) (from_plain c.args.profile (get_or c.args.text.now 0 0) 60 c.less.result.1 c.args.number.now c.rest_of-tail.result.now c.args.out.now.items c.less.result.0 c.in-60.is c.less.ensures.within (c.less.ensures.reads c.args.number.now c.args.profile 60))

pub returns-in-62 : goal.returns-in-62
returns-in-62 c = rw (← c.rest_of-tail.ensures) (from_plain c.args.profile (get_or c.args.text.now 0 0) 62 c.greater.result.1 c.args.number.now c.rest_of-tail.result.now c.args.out.now.items c.greater.result.0 c.in-62.is c.greater.ensures.within (c.greater.ensures.reads c.args.number.now c.args.profile 62))

pub returns-in-47 : goal.returns-in-47
returns-in-47 c = rw (← c.rest_of-tail.ensures) (from_plain c.args.profile (get_or c.args.text.now 0 0) 47 c.comment.result.1 c.args.number.now c.rest_of-tail.result.now c.args.out.now.items c.comment.result.0 c.in-47.is c.comment.ensures.within (c.comment.ensures.reads c.args.number.now))

pub returns-in-35 : goal.returns-in-35
returns-in-35 c = rw (← c.rest_of-tail.ensures) (from_plain c.args.profile (get_or c.args.text.now 0 0) 35 c.hash.result.1 c.args.number.now c.rest_of-tail.result.now c.args.out.now.items c.hash.result.0 c.in-35.is c.hash.ensures.within (c.hash.ensures.reads c.args.number.now 35))

pub returns-in-45 : goal.returns-in-45
returns-in-45 c = rw (← c.rest_of-tail.ensures) (from_plain c.args.profile (get_or c.args.text.now 0 0) 45 c.number_at.result.1 c.number_at.new.number c.rest_of-tail.result.now c.args.out.now.items c.number_at.result.0 c.in-45.is c.number_at.ensures.within c.number_at.ensures.reads)

pub returns-in-34 : goal.returns-in-34
returns-in-34 c = rw (← c.rest_of-tail.ensures) (quoted_from c.args.profile (get_or c.args.text.now 0 0) 34 c.args.number.now c.rest_of-tail.result.now c.args.out.now.items c.quoted.new.out.items c.quoted.result c.in-34.is c.quoted.ensures)

pub returns-in-39 : goal.returns-in-39
returns-in-39 c = rw (← c.rest_of-tail.ensures) (quoted_from c.args.profile (get_or c.args.text.now 0 0) 39 c.args.number.now c.rest_of-tail.result.now c.args.out.now.items c.quoted-in-39.new.out.items c.quoted-in-39.result c.in-39.is c.quoted-in-39.ensures)

pub returns-in-48-to-57 : goal.returns-in-48-to-57
returns-in-48-to-57 c =
    let first = get_or c.args.text.now 0 0 in
    let a = front_view c.number_from_digit.new.number [] c.number_from_digit.result.0 in
    let n = c.number_from_digit.result.1 in
    let reads = subst (λ (f : List ℕ). ReadsNumber false f (take n c.rest_of-tail.result.now) (drop n c.rest_of-tail.result.now) a) (take_more c.args.text.now 0 0 c.requires.some) c.number_from_digit.ensures.reads in rw (← c.rest_of-tail.ensures) (
      c.number_from_digit.ensures.within,
      (
        a,
        subst (λ (s : Start). ReadsFrom s c.args.profile first (take n c.rest_of-tail.result.now) (drop n c.rest_of-tail.result.now) a) (sym (digit_starts first (omega arith) (omega arith))) reads,
        nothing_appended c.number_from_digit.result.0 c.number_from_digit.new.number c.args.out.now.items c.args.out.now.items refl,
      ),
    )

pub returns-in-97-to-122 : goal.returns-in-97-to-122
returns-in-97-to-122 c = rw (← c.rest_of-tail.ensures) (search rules)
