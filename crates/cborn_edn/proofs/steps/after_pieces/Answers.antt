use Rattle.cborn_edn.proofs.Common.{refl, not, sym, ap, ◌∙◌, subst, true, Kind, class_of, string, strings, after_strings, chunked, Reads, Taken, is_some, Home, builds, as_item, as_chunk, wants_chunk, has}
use Rattle.cborn_lex.specs.declared.classes.Kind.TheVariants as kinds
use Rattle.cborn_edn.proofs.Lemmas.{if_ok, item_home, chunk_home, taken_as, taken_same, ended_same}
use Rattle.cborn_edn.proofs.steps.after_pieces.Goals as goal

pub returns-then-is_none : goal.returns-then-is_none
returns-then-is_none g c = if_ok c.after.result _ _ (λ ok t h ps k x a p e none shows.
    let i = item_home h (ap is_some (sym shows.shows.chunks) ∙ c.is_none.ensures ∙ ap not c.if-is_none.true) in
    let was = subst (λ (y : Home). Reads (g.V.Visitor.holds c.args.visitor.now) c.args.here.now c.args.writer.now c.args.writer.now.pieces.items (builds y ps)) (sym i.1) shows in
    subst (λ (y : Home). Taken (g.V.Visitor.holds c.after.new.visitor) ok (builds y ps) k a c.after.new.here c.after.new.writer) i.1
    (taken_same (g.V.Visitor.holds c.after.new.visitor) ok (builds (as_item i.0) ps) (has i.0 (string ps)) k a c.after.new.here c.after.new.writer (ended_same i.0 ps k a none) (t i.0 (string ps) k x a p e (c.in_ok-end_item.ensures i.0 ps was)))) c.after.ensures

pub returns-in_ok-end_chunk-in-Comma : goal.returns-in_ok-end_chunk-in-Comma
returns-in_ok-end_chunk-in-Comma g c = λ h ps k x a p e none shows.
    let i = chunk_home h (ap is_some (sym shows.shows.chunks) ∙ c.is_none.ensures ∙ ap not c.if-is_none.false) in
    let was = subst (λ (y : Home). Reads (g.V.Visitor.holds c.args.visitor.now) c.args.here.now c.args.writer.now c.args.writer.now.pieces.items (builds y ps)) (sym i.3) shows in
    subst (λ (y : Home). Taken (g.V.Visitor.holds c.end_chunk.new.visitor) true (builds y ps) k a c.end_chunk.new.here c.end_chunk.new.writer) i.3
    (taken_as _ true (builds (as_chunk i.0 i.1 i.2) ps) k (class_of kinds.Comma c.args.number x) a c.end_chunk.new.here c.end_chunk.new.writer (e ∙ ap (λ (y : Kind). class_of y c.args.number x) c.in-Comma.is)
    (wants_chunk i.0 i.1 (after_strings (strings i.2 ps) a), refl, c.in_ok-end_chunk-in-Comma.ensures i.0 i.1 a i.2 ps was))

pub returns-in_ok-end_chunks-in-ParenClose : goal.returns-in_ok-end_chunks-in-ParenClose
returns-in_ok-end_chunks-in-ParenClose g c = λ h ps k x a p e none shows.
    let i = chunk_home h (ap is_some (sym shows.shows.chunks) ∙ c.is_none.ensures ∙ ap not c.if-is_none.false) in
    let was = subst (λ (y : Home). Reads (g.V.Visitor.holds c.args.visitor.now) c.args.here.now c.args.writer.now c.args.writer.now.pieces.items (builds y ps)) (sym i.3) shows in
    subst (λ (y : Home). Taken (g.V.Visitor.holds c.end_chunks.new.visitor) true (builds y ps) k a c.end_chunks.new.here c.end_chunks.new.writer) i.3
    (taken_as _ true (builds (as_chunk i.0 i.1 i.2) ps) k (class_of kinds.ParenClose c.args.number x) a c.end_chunks.new.here c.end_chunks.new.writer (e ∙ ap (λ (y : Kind). class_of y c.args.number x) c.in-ParenClose.is)
    (has i.0 (chunked i.1 (strings i.2 ps) a), refl, c.in_ok-end_chunks-in-ParenClose.ensures i.0 i.1 a a (strings i.2 ps) (c.in_ok-end_chunk-in-ParenClose.ensures i.0 i.1 a i.2 ps was)))
