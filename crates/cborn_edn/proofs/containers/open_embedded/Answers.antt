use Rattle.std.specs.Prelude.{◌∷◌}
use Rattle.cborn_edn.proofs.Common.{refl, ap, ◌∙◌, Absent, Writer}
use Rattle.cborn_edn.proofs.Lemmas.{on_ok, both_ok, embed_kept}
use Rattle.cborn_edn.proofs.containers.open_embedded.Goals as goal

pub returns-clause-shows : goal.returns-clause-shows
returns-clause-shows c =
    let here = c.args.here.now in
    let mid = c.open_around.new.writer in
    let kept = c.in_ok-open_around.ensures.kept in
    both_ok c.open_bracket.result (λ f l h o a p e. embed_kept here c.open_bracket.new.here c.args.writer.now c.open_bracket.new.writer mid.spellers h o a c.args.place _ _ p refl refl f (l ∙ ap (λ (y : Writer). record y { brackets = record { place = c.args.place; count = here.count; level = here.level; mark = Absent } ∷ y.brackets }) kept) e) c.open_bracket.ensures.here c.open_bracket.ensures.writer

pub returns-clause-spellers : goal.returns-clause-spellers
returns-clause-spellers c = on_ok c.open_bracket.result (λ l. let d = c.in_ok-open_around.ensures.spellers in (d.0, ap (λ (y : Writer). y.spellers) l ∙ d.1, d.2)) c.open_bracket.ensures.writer
