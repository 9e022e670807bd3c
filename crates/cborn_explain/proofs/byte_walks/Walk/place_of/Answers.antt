use Rattle.std.specs.Prelude.{◌<◌}
use Rattle.cborn_explain.proofs.Common.{length, sym, ap, ◌∙◌, ltb-true, Level, place_at}
use Rattle.cborn_explain.proofs.Walking.Levels.{place_there, place_beyond}
use Rattle.cborn_explain.proofs.byte_walks.Walk.place_of.Goals as goal

pub returns-in-Some : goal.returns-in-Some
returns-in-Some c =
    let x = c.deref.result.now in
    let k = c.args.index in
    let at = c.args.self.now.at in
    let low : k < length x = ltb-true k (length x) (sym c.in-Some.ensures.lookup.0) in
    ap (λ (l : Level). l.place) c.in-Some.ensures.lookup.1 ∙ sym (place_there x k at c.in-Some.level.now low) ∙ ap (λ ls. place_at ls k at) c.deref.ensures.value

pub returns-in-None : goal.returns-in-None
returns-in-None c =
    let at = c.args.self.now.at in
    sym (place_beyond c.deref.result.now c.args.index at c.in-None.ensures.lookup.3) ∙ ap (λ ls. place_at ls c.args.index at) c.deref.ensures.value
