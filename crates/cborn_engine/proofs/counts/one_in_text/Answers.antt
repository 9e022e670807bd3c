use Rattle.cborn_engine.proofs.Common.{is_some, inr, sym, ap, ◌∙◌}
use Rattle.cborn_engine.proofs.CountAnswers.Second.{one_in_text, second_in_text}
use Rattle.cborn_engine.proofs.counts.one_in_text.Goals as goal

pub returns-in-None-clause-one : goal.returns-in-None-clause-one
returns-in-None-clause-one c =
    let (utf8, (ns, held, notated)) = c.in_ok-hand_text.ensures.nodes in
    one_in_text c.args.profile c.args.limit c.args.input.now ns (utf8, notated) (ap is_some (sym held.1) ∙ c.if-is_none.ensures) (sym held.2 ∙ c.in-None.is)

pub returns-clause-refused : goal.returns-clause-refused
returns-clause-refused c =
    let (utf8, (ns, held, notated)) = c.in_ok-hand_text.ensures.nodes in
    inr (second_in_text c.args.profile c.args.limit c.args.input.now ns c.in-Some.place (utf8, notated) (sym held.2 ∙ c.in-Some.is))
