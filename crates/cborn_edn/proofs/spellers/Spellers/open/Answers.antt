use Rattle.std.specs.Prelude.{◌∷◌, ◌+◌}
use Rattle.cborn_edn.proofs.Common.{◌∙◌, ap, refl, List, Speller, reverse}
use Rattle.cborn_edn.proofs.Reader.Opened.{reverse-set}
use Rattle.cborn_edn.proofs.spellers.Spellers.open.Goals as goal

pub returns : goal.returns
returns c =
    let n = c.self.inside.depth in
    let p = c.clear.new.self in
    (p, reverse-set c.make_room.new.spellers.items n (n + 1) p refl c.in_ok-make_room.ensures.room ∙ ap (λ (l : List Speller). p ∷ reverse l) c.in_ok-make_room.ensures.kept ∙ ap (λ (l : List Speller). p ∷ l) c.self.view_is, c.clear.ensures)
