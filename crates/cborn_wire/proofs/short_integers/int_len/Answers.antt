use Rattle.std.specs.Prelude.{◌≤◌}
use Rattle.cborn_wire.proofs.Common.{ℕ, subst, are_bytes}
use Rattle.cborn_wire.proofs.ShortIntegers.{integer_found}
use Rattle.cborn_wire.proofs.short_integers.int_len.Goals as goal

pub returns-clause-integer : goal.returns-clause-integer
returns-clause-integer c some place =
    integer_found place c.args.bytes.now c.form-len.result.0 c.form-len.result.1 (are_bytes c.args.bytes.now c.type_inv.bytes) c.in-len9-up.len_at_least (c.form-len.ensures some)
    (subst (λ (t : ℕ). c.form-len.result.1 ≤ t) c.top.ensures c.if-top-least.false)
