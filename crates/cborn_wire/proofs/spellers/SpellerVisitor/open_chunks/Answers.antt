use Rattle.std.specs.Prelude.{◌≡◌}
use Rattle.cborn_wire.proofs.Common.{sym, ap, ℕ, Option, None, Major, Size, Endless, in_chunks, shape}
use Rattle.cborn_wire.proofs.spellers.SpellerVisitor.open_chunks.Goals as goal

pub returns-clause-held : goal.returns-clause-held
returns-clause-held c = λ f _.
    let o = in_chunks c.args.arg2 c.args.kind in
    let is : shape o ≡ (c.major_of.result, Endless, None) = ap (λ (m : Major). let t : Major × Size × Option ℕ = (m, Endless, None) in t) (sym c.major_of.ensures) in
    c.in_ok-open.ensures f o is
