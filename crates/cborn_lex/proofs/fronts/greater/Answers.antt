use Rattle.cborn_lex.proofs.Common.{inl, refl, sym, ◌∙◌, [], front_view}
use Rattle.cborn_lex.proofs.Sliced.Words.{close_made}
use Rattle.cborn_lex.proofs.fronts.greater.Goals as goal

pub returns-then-begins_with-clause-reads : goal.returns-then-begins_with-clause-reads
returns-then-begins_with-clause-reads c =
    λ n profile b. inl (close_made c.args.tail.now c.rest_of.result.now c.bracket-front.result.1 (front_view n [] c.bracket-front.result.0) (sym c.begins_with.ensures ∙ c.if-begins_with.true) c.rest_of.ensures c.bracket-front.ensures.run (c.bracket-front.ensures.embedded n refl))
