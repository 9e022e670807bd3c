use Rattle.std.specs.Prelude.{◌+◌}
use Rattle.cborn_edn.proofs.Common.{refl, arith, separator_of, Span, has}
use Rattle.cborn_edn.proofs.Lemmas.{separator_here, separator_low, still_taken, separator_handed, skipped_to, after_taken, few_here}
use Rattle.cborn_edn.proofs.quick_ends.take_separator.Goals as goal

pub end_part-requires : goal.end_part-requires
end_part-requires g c = few_here c.requires.inside.0

pub returns : goal.returns
returns g c =
    let h = g.V.Visitor.holds c.args.visitor.now in
    let m = c.args.is_colon in
    let at = c.args.here.now.at in
    let a : Span = record { start = at; stop = at + 1 } in
    let on = after_taken c.requires.inside.0 refl (separator_of m) (at + 1) (λ profile. separator_here m profile c.args.source.text.now at c.requires.inside.1 c.requires.separator) c.end_part.new.here c.args.writer.now c.requires.has c.end_part.result c.if-not-end_part.false
    (λ st i e. still_taken h c.end_part.result (has st i) (separator_of m) a c.end_part.new.here c.args.writer.now (separator_handed h m st i a) e.handed (c.end_part.ensures.taken st i a e.shows)) (λ l. separator_low m l _) in
    let past = skipped_to on.0 c.skip_space.new.here c.skip_space.ensures.rest (c.skip_space.ensures.white c.args.source.profile) in
    (past.0, omega (arith, on.1, past.1), λ e. omega (arith, on.1, past.1))
