use Rattle.std.specs.Prelude.{◌≡◌, ◌∷◌}
use Rattle.cborn_edn.proofs.Common.{sym, ap, ◌∙◌, subst, Some, EmbedClose, embedded, is_in, stack_in, content_state, states_around, AllHanded, Reads, State, in_embed, builds, with_piece, step_by}
use Rattle.cborn_edn.proofs.Lemmas.{embed_closed, ending, embed_at, embed_step, no_embed}
use Rattle.cborn_edn.proofs.Reader.Turning.{content_spelled}
use Rattle.cborn_edn.specs.declared.states.Level.TheVariants as levels
use Rattle.cborn_edn.proofs.endings.end_embedded.Goals as goal

pub close_embedded-requires : goal.close_embedded-requires
close_embedded-requires g c =
    let h = g.V.Visitor.holds c.args.visitor.now in
    let k = embed_at c.requires.0 (ending c.requires.0 c.requires.1) (ap (is_in levels.Embedded) (sym c.requires.2.shows.level) ∙ sym c.is_in.ensures ∙ c.if-not-is_in.false) in
    let e = subst (λ (t : State). Reads h c.args.here.now c.args.writer.now c.args.writer.now.pieces.items t) (sym k.4) c.requires.2 in
    (k.0, k.1, k.2, k.3, e.shows, content_spelled h c.args.writer.now.spellers k.0 k.1 k.2 k.3 e.handed)

pub returns-then-not-is_in-clause-taken : goal.returns-then-not-is_in-clause-taken
returns-then-not-is_in-clause-taken g c = λ s a p x e. no_embed s c.args.mark a (ending s x) (ap (is_in levels.Embedded) (sym e.shows.level) ∙ sym c.is_in.ensures ∙ c.if-not-is_in.true)

pub returns-clause-taken : goal.returns-clause-taken
returns-clause-taken g c = λ s a p x r.
    let h = g.V.Visitor.holds c.args.visitor.now in
    let k = embed_at s (ending s x) (ap (is_in levels.Embedded) (sym r.shows.level) ∙ sym c.is_in.ensures ∙ c.if-not-is_in.false) in
    let e = subst (λ (t : State). Reads h c.args.here.now c.args.writer.now c.args.writer.now.pieces.items t) (sym k.4) r in
    let u = builds k.0 (with_piece k.1 (embedded k.2 k.3 a c.args.mark)) in
    let left = c.in_ok-close_embedded.ensures.spellers in
    let was = content_state (in_embed k.0 k.1 k.2) k.3 in (
      u,
      subst (λ (t : State). step_by t (EmbedClose c.args.mark) a ≡ Some u) k.4 (embed_step k.0 k.1 k.2 a c.args.mark k.3),
      record {
        shows = c.in_ok-close_embedded.ensures.shows k.0 k.1 k.2 a k.3 p e.shows (content_spelled h c.args.writer.now.spellers k.0 k.1 k.2 k.3 e.handed);
        handed = embed_closed h left.0 c.close_embedded.new.writer.spellers k.0 k.1 k.2 k.3 a c.args.mark (subst (λ ps. AllHanded h ps (was ∷ states_around (stack_in was))) left.1 e.handed);
      },
    )
