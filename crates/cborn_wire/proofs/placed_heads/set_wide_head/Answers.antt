use Rattle.cborn_wire.proofs.Common.{rules, subst, List, ℕ, take, drop, length, arith, length-take-le, Fixed, head, argument, ended_size, common_steps}
use Rattle.std.specs.Prelude.{None, ◌≡◌, ◌+◌, ◌++◌, ◌≤◌}
use Rattle.cborn_wire.proofs.Shifting.{placed}
use Rattle.cborn_wire.proofs.placed_heads.set_wide_head.Goals as goal

pub returns-clause-placed : goal.returns-clause-placed
returns-clause-placed c =
    let old = c.args.out.now.items in
    let start = c.args.start in
    let first = c.first_bytes-len in
    let fits : first.result.1 ≤ length first.result.0 = search rules in
    let is : take first.result.1 first.result.0 ≡ head c.args.major (argument (ended_size (Fixed c.args.least) None c.args.n) c.args.n) = grind (arith, common_steps) in
    subst (λ (x : List ℕ). c.write_at.new.out.items ≡ take start old ++ (x ++ drop (start + 1) old)) is
    (placed old c.make_room.new.out.items c.write_at.new.out.items (take first.result.1 first.result.0) start first.result.1 first.ensures.some (length-take-le first.result.1 first.result.0 fits) c.in_ok-make_room.ensures.before c.in_ok-make_room.ensures.after c.write_at.ensures)
