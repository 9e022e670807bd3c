use Rattle.cborn_wire.proofs.Common.{refl, no_part, put, string_tree}
use Rattle.cborn_wire.proofs.Visiting.Counting.{stays, item_accepted, string_accepted}
use Rattle.cborn_wire.proofs.counting.finish.Goals as goal

pub returns-then-add_part-clause-string : goal.returns-then-add_part-clause-string
returns-then-add_part-clause-string g c = λ f p k w x takes holds are.
    let t = string_tree p k w x in
    let s = stays c.args.end f t (g.L.Levels.outer c.args.levels.now) (g.L.Levels.inner c.args.levels.now) (g.L.Levels.inner c.add_part.new.self) are.0 are.1 (string_accepted f p k w x takes) are.2 (c.if-add_part.ensures.more refl) in
    record { partial = put f t; amid = no_part; held = holds; levels = rw (c.if-add_part.ensures.outer) s.0; missing = refl; fits = tt; is = s.1 }

pub returns-then-add_part-clause-goes : goal.returns-then-add_part-clause-goes
returns-then-add_part-clause-goes g c = λ f t takes holds are.
    let s = stays c.args.end f t (g.L.Levels.outer c.args.levels.now) (g.L.Levels.inner c.args.levels.now) (g.L.Levels.inner c.add_part.new.self) are.0 are.1 (item_accepted f t takes) are.2 (c.if-add_part.ensures.more refl) in
    record { partial = put f t; amid = no_part; held = holds; levels = rw (c.if-add_part.ensures.outer) s.0; missing = refl; fits = tt; is = s.1 }

pub returns-clause-string : goal.returns-clause-string
returns-clause-string g c = λ f p k w x takes holds are.
    c.close.ensures.goes f (string_tree p k w x) (g.L.Levels.inner c.args.levels.now) holds (rw (c.if-add_part.ensures.outer) are) (c.if-add_part.ensures.last refl)

pub returns-clause-goes : goal.returns-clause-goes
returns-clause-goes g c = λ f t takes holds are. c.close.ensures.goes f t (g.L.Levels.inner c.args.levels.now) holds (rw (c.if-add_part.ensures.outer) are) (c.if-add_part.ensures.last refl)
