use Rattle.std.specs.Prelude.{◌≡◌}
use Rattle.cborn_edn.proofs.Common.{refl, sym, subst, Some, Kind, class_of, simple, has, has_number, step_by}
use Rattle.cborn_edn.proofs.steps.after_number.Goals as goal

pub returns-in-ParenClose : goal.returns-in-ParenClose
returns-in-ParenClose c = λ st s b a n v m x e.
    let u = has st (simple s b n v m a) in
    (u, subst (λ (k : Kind). step_by (has_number st s b n v m) (class_of k c.args.number x) a ≡ Some u) (sym c.in-ParenClose.is) refl, c.close_simple.ensures c.args.writer.now c.args.writer.now.pieces.items st s b a n v m e)
