use Rattle.std.specs.Prelude.{◌≡◌, ◌++◌, ◌%◌, ◌<◌, ◌^◌}
use Rattle.cborn_edn.proofs.Common.{ℕ, arith, refl, sym, ap, ◌∙◌, subst, WidthFits, Absent, width, tag_errors, first_error, in_tag, wants, noted_stack, states_around}
use Rattle.cborn_edn.specs.declared.states.Level.TheVariants as levels
use Rattle.cborn_edn.proofs.Lemmas.{both_ok, opened_read, tag_fits, hands_tag}
use Rattle.cborn_edn.proofs.containers.open_tag.Goals as goal

low_bits : (n : ℕ) → n < 2 ^ 64 → n % 18446744073709551616 ≡ n
low_bits n h = omega (arith, h)

pub hand-requires : goal.hand-requires
hand-requires g c = λ none.
    let fits = tag_fits c.args.writer.now.error c.note_tag.new.error none c.args.place c.args.mark c.args.number c.note_tag.ensures in
    let same = low_bits c.args.number fits.0 in
    subst (λ w. WidthFits w (c.args.number % 18446744073709551616)) (sym c.width_for.ensures) (subst (λ n. WidthFits (width c.args.mark n) n) (sym same) fits.1)

pub returns : goal.returns
returns g c = both_ok c.open_bracket.result (λ f l st a p r.
    let error = c.note_tag.ensures (noted_stack st) r.shows.error ∙ ap (λ q. first_error (noted_stack st ++ tag_errors q c.args.mark c.args.number)) p in
    let inner = in_tag st a c.args.number c.args.mark in
    opened_read st inner levels.Tag 0 Absent c.note_tag.new.error c.hand.new.spellers refl refl refl refl refl refl error c.open_bracket.new.here c.open_bracket.new.writer f l
    (c.in_ok-hand.ensures (wants st) (wants inner) (states_around st) error (hands_tag st a p c.args.mark c.args.number (c.args.number % 18446744073709551616) c.width_for.result (low_bits c.args.number) c.width_for.ensures) r.handed) r) c.open_bracket.ensures.here c.open_bracket.ensures.writer
