use Rattle.std.specs.Prelude.{◌∷◌}
use Rattle.cborn_edn.proofs.Common.{refl, sym, ap, ◌∙◌, subst, Option, List, Speller, piece_errors, MeaningError, Has, Here, Writer, Notes, listed_trees, nodes_in, content_state, in_embed}
use Rattle.cborn_edn.proofs.Reader.Closed.{closed_embed, content_known, content_spelled, reopened, spelled_innermost}
use Rattle.cborn_edn.proofs.containers.close_around.Goals as goal

pub push_spelled-requires : goal.push_spelled-requires
push_spelled-requires c = λ known.
    let w = c.args.writer.now in
    let here = c.requires.0 in
    let f = c.requires.1 in
    let h = c.requires.2 in
    let o = c.requires.3 in
    let s = c.requires.4 in
    let k = c.requires.5 in
    let all = c.in-Some.ensures in
    let next : Here = record here { count = f.count; phase = Has; level = f.level } in
    let was : Writer = record w { brackets = f ∷ w.brackets } in (
      listed_trees (nodes_in k),
      content_spelled c.in-Some.speller.now h o s k (spelled_innermost w.spellers c.in-Some.speller.now all.0 (content_state (in_embed h o s) k) all.1 c.requires.7) (content_known here next was w f h o s k (reopened here w f) c.requires.6 (sym c.is_none-known.ensures ∙ known)),
    )

pub returns-clause-shows : goal.returns-clause-shows
returns-clause-shows c = λ here f h o s a k q p e t.
    let w = c.args.writer.now in
    let all = c.in-Some.ensures in
    let next : Here = record here { count = f.count; phase = Has; level = f.level } in
    let was : Writer = record w { brackets = f ∷ w.brackets } in
    closed_embed here next _ was w _ f c.in-Some-shut.around c.with_embedded-string.result c.in-Some.speller.now c.is_none-known.result c.args.mark c.args.place
    (record {
      shut = reopened here w f;
      known = c.is_none-known.ensures;
      popped = c.in-Some-shut.ensures;
      joint = record {
        alone = λ t n i b l r m g. let d = c.with_embedded-string.ensures.alone t n i (b ∙ q) l r m g in (d.0, d.1 ∙ c.earlier-writer.ensures);
        more = λ u t n i b r m g. let d = c.with_embedded-string.ensures.more u t n i (b ∙ q) r m g in (d.0, subst (λ (x : Option MeaningError). Notes x c.with_embedded-string.new.error (piece_errors u t)) c.earlier-writer.ensures d.1);
      };
      brackets = refl;
      chunks = refl;
      start = refl;
      string = refl;
      pieces = c.in_ok-push_spelled.ensures;
    }) refl h s a k p o (spelled_innermost w.spellers c.in-Some.speller.now all.0 (content_state (in_embed h o s) k) all.1 t) e

pub returns-clause-spellers : goal.returns-clause-spellers
returns-clause-spellers c =
    let p = c.in-Some.speller.now in
    let all = c.in-Some.ensures in
    (p, all.1 ∙ ap (λ (l : List Speller). p ∷ l) (sym (c.shut.ensures p all.0 all.1)))
