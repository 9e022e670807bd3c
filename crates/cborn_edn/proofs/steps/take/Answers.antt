use Rattle.std.specs.Prelude.{◌≡◌, ◌⊎◌}
use Rattle.cborn_edn.proofs.Common.{arith, sym, ◌∙◌, subst, Phase, Wants, WantsMore, class_of, IsReady, EndsPieces, State, wants, has, builds, wants_number, has_number}
use Rattle.cborn_edn.proofs.Lemmas.{if_ok, is_has, is_wants, is_builds, is_wants_number, is_has_number, taken_as, still_taken, paren_handed, shown_kind, bare_taken, no_piece, no_chunk}
use Rattle.cborn_edn.proofs.steps.take.Goals as goal

abbrev IsWanted : Phase → Type 0
IsWanted p = (p ≡ Wants) ⊎ (p ≡ WantsMore)

pub begin-requires-clause-ready : goal.begin-requires-clause-ready
begin-requires-clause-ready g c = grind (arith, is_wants)

pub after-requires-clause-shows : goal.after-requires-clause-shows
after-requires-clause-shows g c =
    let i = is_has c.requires.0 (sym c.requires.1.1.1.shows.shows.phase ∙ c.in-Has.is) in
    let r = subst (λ (t : State). IsReady (g.V.Visitor.holds c.args.visitor.now) c.args.token.kind c.args.number c.args.here.now c.args.writer.now t) (sym i.2) c.requires.1 in
    (i.0, i.1, shown_kind c.args.token.kind c.args.number c.args.here.now c.args.writer.now (has i.0 i.1) r.0 r.1.0 (sym c.is_piece.ensures ∙ c.if-is_piece.false) r.1.1)

pub after_pieces-requires-clause-shows : goal.after_pieces-requires-clause-shows
after_pieces-requires-clause-shows g c =
    let i = is_builds c.requires.0 (sym c.requires.1.1.1.shows.shows.phase ∙ c.in-Builds.is) in
    let r = subst (λ (t : State). IsReady (g.V.Visitor.holds c.args.visitor.now) c.args.token.kind c.args.number c.args.here.now c.args.writer.now t) (sym i.2) c.requires.1 in
    (i.0, i.1, shown_kind c.args.token.kind c.args.number c.args.here.now c.args.writer.now (builds i.0 i.1) r.0 r.1.0 (sym c.is_piece.ensures ∙ c.if-is_piece.false) r.1.1)

pub returns-in-Wants : goal.returns-in-Wants
returns-in-Wants g c = if_ok c.begin.result _ _ (λ ok t s base k a p r.
    let i = is_wants s (subst IsWanted r.shows.shows.phase c.in-Wants.is) in
    bare_taken _ c.args.token.kind c.args.number c.args.token.start c.args.here.now c.begin.new.here c.args.writer.now c.begin.new.writer ok (wants i.0) s (sym c.is_piece.ensures ∙ c.if-is_piece.false) i.1 (t i.0) base k a p r) c.begin.ensures

pub returns-in-Has : goal.returns-in-Has
returns-in-Has g c = if_ok c.after.result _ _ (λ ok t s base k a p r.
    let i = is_has s (sym r.shows.shows.phase ∙ c.in-Has.is) in
    bare_taken _ c.args.token.kind c.args.number c.args.token.start c.args.here.now c.after.new.here c.args.writer.now c.after.new.writer ok (has i.0 i.1) s (sym c.is_piece.ensures ∙ c.if-is_piece.false) i.2 (t i.0 i.1) base k a p r) c.after.ensures

pub returns-in-WantsNumber : goal.returns-in-WantsNumber
returns-in-WantsNumber g c = if_ok c.begin_number.result _ _ (λ ok t s base k a p r.
    let i = is_wants_number s (sym r.shows.shows.phase ∙ c.in-WantsNumber.is) in
    bare_taken _ c.args.token.kind c.args.number c.args.token.start c.args.here.now c.begin_number.new.here c.args.writer.now c.begin_number.new.writer ok (wants_number i.0 i.1) s (sym c.is_piece.ensures ∙ c.if-is_piece.false) i.2 (t i.0 i.1) base k a p r) c.begin_number.ensures

pub returns-in-Builds : goal.returns-in-Builds
returns-in-Builds g c = if_ok c.after_pieces.result _ _ (λ ok t s base k a p r.
    let i = is_builds s (sym r.shows.shows.phase ∙ c.in-Builds.is) in
    bare_taken _ c.args.token.kind c.args.number c.args.token.start c.args.here.now c.after_pieces.new.here c.args.writer.now c.after_pieces.new.writer ok (builds i.0 i.1) s (sym c.is_piece.ensures ∙ c.if-is_piece.false) i.2 (λ q x b o e. t i.0 i.1 q x b o e (subst EndsPieces (sym e) (no_piece c.args.token.kind c.args.number x (sym c.is_piece.ensures ∙ c.if-is_piece.false)))) base k a p r) c.after_pieces.ensures

pub returns-in-WantsChunk : goal.returns-in-WantsChunk
returns-in-WantsChunk g c = λ s base k a p r. no_chunk s k a (sym r.shows.shows.phase ∙ c.in-WantsChunk.is) (subst EndsPieces (sym r.stands.class) (no_piece c.args.token.kind c.args.number r.stands.content (sym c.is_piece.ensures ∙ c.if-is_piece.false)))

pub returns-in-HasNumber : goal.returns-in-HasNumber
returns-in-HasNumber g c = λ s base k a p r.
    let h = g.V.Visitor.holds c.args.visitor.now in
    let ok = c.after_number.result in
    let i = is_has_number s (sym r.shows.shows.phase ∙ c.in-HasNumber.is) in
    let now = has_number i.0 i.1 i.2 i.3 i.4 i.5 in
    bare_taken _ c.args.token.kind c.args.number c.args.token.start c.args.here.now c.after_number.new.here c.args.writer.now c.args.writer.now ok (now) s (sym c.is_piece.ensures ∙ c.if-is_piece.false) i.6 (λ q x b o e reads. taken_as h ok now q (class_of c.args.token.kind c.args.number x) b c.after_number.new.here c.args.writer.now e
    (still_taken h ok now (class_of c.args.token.kind c.args.number x) b c.after_number.new.here c.args.writer.now (paren_handed h i.0 i.1 i.2 i.3 i.4 i.5 (class_of c.args.token.kind c.args.number x) b) reads.handed (c.after_number.ensures i.0 i.1 i.2 b i.3 i.4 i.5 x reads.shows))) base k a p r
