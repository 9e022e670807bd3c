use Rattle.std.specs.Prelude.{◌≡◌}
use Rattle.cborn_edn.proofs.Common.{refl, sym, ap, ◌∙◌, subst, Some, Comma, Colon, row, after_row, pairs, after_pairs, is_in, is_row, Shows, Stack, in_row, in_key, in_value, wants, has, step_by}
use Rattle.cborn_edn.proofs.Reader.Inverted.{key_at, no_key, value_at, row_at, no_comma}
use Rattle.cborn_edn.proofs.Reader.Rows.{colon_shown, comma_shown, pair_comma_shown}
use Rattle.cborn_edn.specs.declared.states.Level.TheVariants as levels
use Rattle.cborn_edn.proofs.endings.end_part.Goals as goal

pub returns-then-not-is_in-clause-taken : goal.returns-then-not-is_in-clause-taken
returns-then-not-is_in-clause-taken c = λ st i a e. rw c.if-is_colon.true (no_key st i a (ap (is_in levels.Key) (sym e.level) ∙ sym c.is_in.ensures ∙ c.if-not-is_in.true))

pub returns-then-is_colon-clause-taken : goal.returns-then-is_colon-clause-taken
returns-then-is_colon-clause-taken c = λ st i a e.
    let k = key_at st (ap (is_in levels.Key) (sym e.level) ∙ sym c.is_in.ensures ∙ c.if-not-is_in.false) in
    let u = wants (in_value k.0 k.1 k.2 k.3 i a) in
    rw c.if-is_colon.true (u, subst (λ (t : Stack). step_by (has t i) Colon a ≡ Some u) k.4 refl, colon_shown c.args.here.now _ c.args.writer.now c.args.writer.now.pieces.items k.0 k.1 a k.2 k.3 i refl refl refl (subst (λ (t : Stack). Shows c.args.here.now c.args.writer.now c.args.writer.now.pieces.items (has t i)) (sym k.4) e))

pub returns-then-is_in-clause-taken : goal.returns-then-is_in-clause-taken
returns-then-is_in-clause-taken c = λ st i a e.
    let k = value_at st (ap (is_in levels.Value) (sym e.level) ∙ sym c.is_in-2.ensures ∙ c.if-is_in.true) in
    let u = wants (in_key k.0 k.1 k.2 (after_pairs (pairs k.3 k.4 k.5 i) a)) in
    rw c.if-is_colon.false (u, subst (λ (t : Stack). step_by (has t i) Comma a ≡ Some u) k.6 refl, pair_comma_shown c.args.here.now _ c.args.writer.now c.args.writer.now.pieces.items k.0 k.1 k.5 a k.2 k.3 k.4 i refl refl refl (subst (λ (t : Stack). Shows c.args.here.now c.args.writer.now c.args.writer.now.pieces.items (has t i)) (sym k.6) e))

pub returns-then-not-is_row-clause-taken : goal.returns-then-not-is_row-clause-taken
returns-then-not-is_row-clause-taken c = λ st i a e. rw c.if-is_colon.false (no_comma st i a (ap (is_in levels.Value) (sym e.level) ∙ sym c.is_in-2.ensures ∙ c.if-is_in.false) (ap is_row (sym e.level) ∙ sym c.is_row.ensures ∙ c.if-not-is_row.true))

pub returns-clause-taken : goal.returns-clause-taken
returns-clause-taken c = λ st i a e.
    let k = row_at st (ap is_row (sym e.level) ∙ sym c.is_row.ensures ∙ c.if-not-is_row.false) in
    let u = wants (in_row k.0 (after_row (row k.1 i) a)) in
    rw c.if-is_colon.false (u, subst (λ (t : Stack). step_by (has t i) Comma a ≡ Some u) k.2 refl, comma_shown c.args.here.now _ c.args.writer.now c.args.writer.now.pieces.items k.0 k.1 i a refl refl refl (subst (λ (t : Stack). Shows c.args.here.now c.args.writer.now c.args.writer.now.pieces.items (has t i)) (sym k.2) e))
