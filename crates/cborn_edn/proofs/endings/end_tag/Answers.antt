use Rattle.std.specs.Prelude.{◌≡◌}
use Rattle.cborn_edn.proofs.Common.{refl, sym, ap, ◌∙◌, subst, Some, ParenClose, tag, is_in, Reads, Stack, has, step_by}
use Rattle.cborn_edn.proofs.Reader.Inverted.{tag_at, no_tag, is_open}
use Rattle.cborn_edn.specs.declared.states.Level.TheVariants as levels
use Rattle.cborn_edn.proofs.endings.end_tag.Goals as goal

pub returns-then-not-is_in-clause-taken : goal.returns-then-not-is_in-clause-taken
returns-then-not-is_in-clause-taken g c = λ st i a e. no_tag st i a (ap (is_in levels.Tag) (sym e.shows.level) ∙ sym c.is_in.ensures ∙ c.if-not-is_in.true)

pub returns-clause-taken : goal.returns-clause-taken
returns-clause-taken g c = λ st i a e.
    let k = tag_at st (ap (is_in levels.Tag) (sym e.shows.level) ∙ sym c.is_in.ensures ∙ c.if-not-is_in.false) in
    let u = has k.0 (tag k.1 k.2 k.3 i a) in
    (u, subst (λ (t : Stack). step_by (has t i) ParenClose a ≡ Some u) k.4 refl, c.in_ok-close_tag.ensures k.0 k.1 a k.2 k.3 i (subst (λ (t : Stack). Reads (g.V.Visitor.holds c.args.visitor.now) c.args.here.now c.args.writer.now c.args.writer.now.pieces.items (has t i)) (sym k.4) e))

pub close_tag-requires : goal.close_tag-requires
close_tag-requires g c = is_open (is_in levels.Tag) c.args.here.now c.args.writer.now c.args.writer.now.pieces.items (has c.requires.0 c.requires.1) refl (sym c.is_in.ensures ∙ c.if-not-is_in.false) c.requires.2.shows
