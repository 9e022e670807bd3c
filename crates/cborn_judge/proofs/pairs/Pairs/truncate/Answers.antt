use Rattle.cborn_judge.proofs.Common.{map, take, sym, ap, ◌∙◌, take-map, mark_of, narrow_of, all_marks}
use Rattle.cborn_judge.proofs.pairs.Pairs.truncate.Goals as goal

pub returns-in-Narrow : goal.returns-in-Narrow
returns-in-Narrow c = ap (map narrow_of) c.truncate.ensures.items ∙ sym (take-map narrow_of c.args.len c.in-Narrow.narrow.items) ∙ ap (λ z. take c.args.len (all_marks z)) (sym c.in-Narrow.is)

pub returns-in-Wide : goal.returns-in-Wide
returns-in-Wide c = ap (map mark_of) c.truncate-in-Wide.ensures.items ∙ sym (take-map mark_of c.args.len c.in-Wide.wide.items) ∙ ap (λ z. take c.args.len (all_marks z)) (sym c.in-Wide.is)
