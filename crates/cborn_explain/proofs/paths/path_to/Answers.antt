use Rattle.cborn_explain.proofs.Common.{sym, subst, arith, LeadsTo}
use Rattle.std.proofs.lemmas.Result.{IfOk-weaker}
use Rattle.cborn_explain.proofs.Walking.Whole.{walk_leads, leads_beyond}
use Rattle.cborn_explain.proofs.paths.path_to.Goals as goal

pub returns : goal.returns
returns c =
    let x = c.args.bytes.now in
    let w = c.in_ok-walk.walk in
    let n = c.place_in.result in
    let led = leads_beyond x n c.args.place _ c.place_in.ensures.place (walk_leads x n w.at w.levels.items (omega arith) c.in_ok-walk.ensures) in
    record { leads = IfOk-weaker c.path.result _ _ (λ path is. subst (LeadsTo x c.args.place) (sym is) led) c.path.ensures }
