use Rattle.cborn_engine.proofs.Common.{subst, ShownWhole, most_bytes}
use Rattle.cborn_engine.proofs.Answers.{short, known_error, no_reading}
use Rattle.cborn_engine.proofs.slices.spell_slice.Goals as goal

pub show_input-requires-clause-malformed : goal.show_input-requires-clause-malformed
show_input-requires-clause-malformed c e f = no_reading c.args.limit c.args.input.now (c.is_own_spelling.ensures.malformed c.if-is_own_spelling.false e f)

pub returns-in_err-show_input-clause-shown : goal.returns-in_err-show_input-clause-shown
returns-in_err-show_input-clause-shown c =
    let l = short most_bytes c.args.input.now c.is_too_long.result c.is_too_long.ensures c.if-is_too_long.false in
    known_error (λ r. ShownWhole c.args.in_kind c.args.out_kind c.args.limit c.args.input.now r) _ _ c.from_residual.ensures.1 (c.in_err-show_input.ensures.unshown most_bytes l)

pub returns-in_err-show_input-clause-unfailing : goal.returns-in_err-show_input-clause-unfailing
returns-in_err-show_input-clause-unfailing c e f h =
    let l = short most_bytes c.args.input.now c.is_too_long.result c.is_too_long.ensures c.if-is_too_long.false in
    let found = c.is_own_spelling.ensures.malformed c.if-is_own_spelling.false e f in
    let refused = subst (λ r. ShownWhole c.args.in_kind c.args.out_kind c.args.limit c.args.input.now r) h (returns-in_err-show_input-clause-shown c) in
    refused.0.1.none found.0 found.1 e found.2
