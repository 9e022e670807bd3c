use Rattle.std.specs.Prelude.{◌≡◌, ◌∷◌}
use Rattle.cborn_edn.proofs.Common.{refl, sym, ap, ◌∙◌, subst, builds, with_piece, embedded, content_state, in_embed, Here, Writer, Builds, IsSpelled, Shows}
use Rattle.cborn_edn.proofs.containers.close_embedded.Goals as goal

pub close_around-requires : goal.close_around-requires
close_around-requires c =
    let f = c.shut-bracket.result in
    let mid = c.shut-bracket.new.writer in
    let back : record mid { brackets = f ∷ mid.brackets } ≡ c.args.writer.now = λ i. record (c.shut-bracket.ensures.rest i) { brackets = sym c.shut-bracket.ensures.was i } in
    let s = content_state (in_embed c.requires.0 c.requires.1 c.requires.2) c.requires.3 in
    (c.args.here.now, f, c.requires.0, c.requires.1, c.requires.2, c.requires.3, subst (λ (y : Writer). Shows c.args.here.now y y.pieces.items s) (sym back) c.requires.4, subst (λ (y : Writer). IsSpelled y.spellers s) (sym back) c.requires.5)

pub returns-clause-shows : goal.returns-clause-shows
returns-clause-shows c = λ h o s a k p e t.
    let here = c.args.here.now in
    let f = c.shut-bracket.result in
    let mid = c.shut-bracket.new.writer in
    let back : record mid { brackets = f ∷ mid.brackets } ≡ c.args.writer.now = λ i. record (c.shut-bracket.ensures.rest i) { brackets = sym c.shut-bracket.ensures.was i } in
    let x = content_state (in_embed h o s) k in
    let left = c.close_around.new.writer in
    let next = (c.shut-bracket.ensures.top f mid.brackets c.shut-bracket.ensures.was).2 in
    subst (λ (y : Here). Shows (record y { phase = Builds }) left left.pieces.items (builds h (with_piece o (embedded s k a c.args.mark)))) (sym next)
    (c.in_ok-close_around.ensures.shows here f h o s a k refl p (subst (λ (y : Writer). Shows here y y.pieces.items x) (sym back) e) (subst (λ (y : Writer). IsSpelled y.spellers x) (sym back) t))

pub returns-clause-spellers : goal.returns-clause-spellers
returns-clause-spellers c = let d = c.in_ok-close_around.ensures.spellers in (d.0, sym (ap (λ (y : Writer). y.spellers) c.shut-bracket.ensures.rest) ∙ d.1)
