use Rattle.cborn_edn.proofs.Common.{sym, ap, ◌∙◌, ends_sized, phase_of}
use Rattle.cborn_edn.proofs.Reader.Inverted.{ending, sized_at, no_sized, is_open, sized_none}
use Rattle.cborn_edn.proofs.endings.end_sized.Goals as goal

pub close_sized-requires-clause-open : goal.close_sized-requires-clause-open
close_sized-requires-clause-open g c = is_open (ends_sized c.args.is_map c.args.here.now.phase) c.args.here.now c.args.writer.now c.args.writer.now.pieces.items c.requires.shows.0 (sized_none c.args.is_map c.args.here.now.phase) (sym c.ends_sized.ensures ∙ c.if-not-ends_sized.false) c.requires.shows.2.shows

pub returns-then-not-ends_sized-clause-taken : goal.returns-then-not-ends_sized-clause-taken
returns-then-not-ends_sized-clause-taken g c = λ s a x e. no_sized c.args.is_map s a (ending s x) (ap (ends_sized c.args.is_map (phase_of s)) (sym e.shows.level) ∙ ap (λ y. ends_sized c.args.is_map y c.args.here.now.level) (sym e.shows.phase) ∙ sym c.ends_sized.ensures ∙ c.if-not-ends_sized.true)

pub returns-clause-taken : goal.returns-clause-taken
returns-clause-taken g c = λ s a x e.
    let k = sized_at c.args.is_map s a (ending s x) (ap (ends_sized c.args.is_map (phase_of s)) (sym e.shows.level) ∙ ap (λ y. ends_sized c.args.is_map y c.args.here.now.level) (sym e.shows.phase) ∙ sym c.ends_sized.ensures ∙ c.if-not-ends_sized.false) in
    (k.0, k.1, c.in_ok-close_sized.ensures s k.0 a k.2 e)
