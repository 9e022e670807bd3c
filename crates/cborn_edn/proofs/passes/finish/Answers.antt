use Rattle.cborn_edn.proofs.Common.{sym, ◌∙◌, subst, IsNoNotation, Reached}
use Rattle.cborn_edn.proofs.Reader.Ending.{at_end_of, not_at_end, cut_short, meaning_refused, held_text}
use Rattle.cborn_edn.proofs.passes.finish.Goals as goal

pub end_last-requires : goal.end_last-requires
end_last-requires g c =
    let k = at_end_of c.args.here c.args.writer c.requires.reading (sym c.may_end.ensures ∙ c.if-not-may_end.false) in
    (c.requires.reading.state, k.0, k.2, c.requires.reading.shows)

pub returns-then-not-may_end-clause-refused : goal.returns-then-not-may_end-clause-refused
returns-then-not-may_end-clause-refused g c =
    subst (IsNoNotation c.args.source.profile c.args.source.limit c.args.source.text.now) (sym c.refused.ensures) (cut_short c.args.source.profile c.args.source.limit c.args.source.text.now c.requires.reading.state (subst (λ n. Reached c.args.source.profile c.args.source.limit c.args.source.text.now n c.requires.reading.state) c.requires.whole c.requires.reading.reached) (not_at_end c.args.here c.args.writer c.requires.reading (sym c.may_end.ensures ∙ c.if-not-may_end.true)))

pub returns-in-Some-clause-refused : goal.returns-in-Some-clause-refused
returns-in-Some-clause-refused g c =
    let k = at_end_of c.args.here c.args.writer c.requires.reading (sym c.may_end.ensures ∙ c.if-not-may_end.false) in
    meaning_refused c.args.source.profile c.args.source.limit c.args.source.text.now c.requires.reading.state (subst (λ n. Reached c.args.source.profile c.args.source.limit c.args.source.text.now n c.requires.reading.state) c.requires.whole c.requires.reading.reached) k.0 c.end_last.new.writer c.in-Some.error k.1 (c.in_ok-end_last.ensures c.requires.reading.state k.0 k.2 c.requires.reading.shows) c.in-Some.is

pub returns-clause-nodes : goal.returns-clause-nodes
returns-clause-nodes g c =
    let k = at_end_of c.args.here c.args.writer c.requires.reading (sym c.may_end.ensures ∙ c.if-not-may_end.false) in
    held_text c.args.source.profile c.args.source.limit c.args.source.text.now c.requires.reading.state (subst (λ n. Reached c.args.source.profile c.args.source.limit c.args.source.text.now n c.requires.reading.state) c.requires.whole c.requires.reading.reached) k.0 c.end_last.new.writer k.1 (c.in_ok-end_last.ensures c.requires.reading.state k.0 k.2 c.requires.reading.shows) c.in-None.is
