use Rattle.std.specs.Prelude.{◌+◌}
use Rattle.cborn_edn.proofs.Common.{refl, arith, ParenClose, Span}
use Rattle.cborn_lex.specs.Good as good
use Rattle.cborn_edn.proofs.Lemmas.{single_here, went, after_taken}
use Rattle.cborn_edn.proofs.quick_ends.take_tag_end.Goals as goal

pub returns : goal.returns
returns g c =
    let at = c.args.here.now.at in
    let a : Span = record { start = at; stop = at + 1 } in
    went (after_taken c.requires.inside.0 refl ParenClose (at + 1) (λ profile. single_here profile c.args.source.text.now at 41 ParenClose c.requires.inside.1 c.requires.paren (λ z. good.paren_close z)) c.end_tag.new.here c.end_tag.new.writer c.requires.has c.in_ok-end_tag.field-0 c.if-not-branch.false (λ st i e. c.in_ok-end_tag.ensures.taken st i a e) (λ l. omega arith))
