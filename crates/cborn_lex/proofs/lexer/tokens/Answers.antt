use Rattle.std.specs.Prelude.{◌∷◌}
use Rattle.cborn_lex.proofs.Common.{IsTokenFrom, subst, [], arith, append-nil, TokensBetween, HasNoTokens}
use Rattle.cborn_lex.proofs.WholeTexts.Progress.{passed_on, nothing, joins, inside, few, whole_text, stops, whole_stop}
use Rattle.cborn_lex.proofs.lexer.tokens.Goals as goal

pub tokens-init : goal.tokens-init
tokens-init c = (rw c.new-found.ensures.items (nothing c.args.profile c.args.text.now 0), omega arith)

pub tokens-preserved : goal.tokens-preserved
tokens-preserved c =
    let next = subst (IsTokenFrom c.args.profile c.args.text.now c.tokens.at) c.in-Some.is c.in_ok-token.ensures.ok in
    let far = inside c.args.profile c.args.text.now c.tokens.at c.in-Some.token.stop (c.in-Some.token ∷ []) c.tokens.invariant.1 next in
    (rw c.in_ok-push.ensures.items (joins c.args.profile c.args.text.now 0 c.tokens.at c.in-Some.token.stop c.tokens.found.items (c.in-Some.token ∷ []) c.tokens.invariant.0 next), far.1)

pub tokens-smaller : goal.tokens-smaller
tokens-smaller c = grind (arith, few, inside)

pub returns-clause-ok : goal.returns-clause-ok
returns-clause-ok c =
    let last = subst (IsTokenFrom c.args.profile c.args.text.now c.tokens.at) c.in_default.is c.in_ok-token.ensures.ok in
    whole_text c.args.profile c.args.text.now c.tokens.found.items (subst (TokensBetween c.args.profile c.args.text.now 0 _) (append-nil c.tokens.found.items) (joins c.args.profile c.args.text.now 0 c.tokens.at _ c.tokens.found.items [] c.tokens.invariant.0 last))

pub returns-in_err-token-clause-refused : goal.returns-in_err-token-clause-refused
returns-in_err-token-clause-refused c =
    let stop = whole_stop c.args.profile c.args.text.now c.in_err-token.field-0.0 (stops c.args.profile c.args.text.now 0 c.tokens.at c.tokens.found.items c.in_err-token.field-0.0 c.tokens.invariant.0 c.in_err-token.ensures.refused) in
    passed_on c.from_residual.result c.in_err-token.field-0.0 (HasNoTokens c.args.profile c.args.text.now) stop c.from_residual.ensures
