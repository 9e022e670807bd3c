use Rattle.std.specs.Prelude.{◌++◌}
use Rattle.cborn_wire.proofs.Common.{Err, false≢true, sym, ◌∙◌, refl, subst, take, arith, length-append, length-take-le, err_from_is_err_and, AreBytes, ReadsItem, bytes-right, are_bytes}
use Rattle.cborn_wire.proofs.Visiting.Pieces.{next_cut, next_taken, next_fed, next_item, next_refused, next_item_refused, none_more}
use Rattle.cborn_wire.proofs.head_readers.HeadReader.read.Goals as goal
use Rattle.cborn_wire.proofs.head_readers.HeadReader.read.Goals.{in-Item, in_default, else-matches-via-then-matches+else-is_whole, else-matches-via-else-matches}

pub returns-in_err-len-clause-fed : goal.returns-in_err-len-clause-fed
returns-in_err-len-clause-fed g c = λ base x fed.
    let (y, cut, limit, at, goes, none) = c.loop-rest.invariant in
    let p = err_from_is_err_and c.from_residual.result c.from_residual.ensures.1 in
    let took = c.in_err-len.ensures in
    rw (p.1, p.2) (next_refused g.V.Visitor.holds g.L.Levels.outer g.L.Levels.inner c.loop-rest.visitor c.loop-rest.levels c.loop-rest.self base x y c.loop-rest.rest.now (goes base x fed) c.args.piece.now cut
    c.take.new.visitor c.take.new.levels c.take.new.self c.in_err-len.field-0.0 took.goes took.some.1 took.kept)

pub returns-in_err-len-clause-item : goal.returns-in_err-len-clause-item
returns-in_err-len-clause-item g c = λ item base x fed.
    let (y, cut, limit, at, goes, none) = c.loop-rest.invariant in
    let p = err_from_is_err_and c.from_residual.result c.from_residual.ensures.1 in
    let e = c.in_err-len.field-0.0 in
    rw (p.1, p.2) (subst (λ k. ReadsItem k base x c.args.piece.now (Err e)) limit (next_item_refused g.V.Visitor.holds g.L.Levels.outer g.L.Levels.inner c.loop-rest.visitor c.loop-rest.levels c.loop-rest.self base x y c.loop-rest.rest.now (goes base x fed) c.args.piece.now cut
    c.take.new.visitor c.take.new.levels c.take.new.self e c.in_err-len.ensures.goes (none item base x fed)))

pub returns-then-is_whole-clause-fed : goal.returns-then-is_whole-clause-fed
returns-then-is_whole-clause-fed g c = λ base x fed.
    let (y, cut, limit, at, goes, none) = c.loop-rest.invariant in
    let rest = c.loop-rest.rest.now in
    let took = c.in_ok-len.ensures in
    rw (next_taken c.args.piece.now y rest cut c.in_ok-len.len took.some.0.1) (next_fed g.V.Visitor.holds g.L.Levels.outer g.L.Levels.inner c.loop-rest.visitor c.loop-rest.levels c.loop-rest.self base x y rest (goes base x fed)
    c.take.new.visitor c.take.new.levels c.take.new.self c.in_ok-len.len took.goes took.some.1 took.some.2 (bytes-right y rest (subst AreBytes cut (are_bytes c.args.piece.now c.type_inv.piece))))

pub returns-then-is_whole-clause-item : goal.returns-then-is_whole-clause-item
returns-then-is_whole-clause-item g c = λ item base x fed.
    let (y, cut, limit, at, goes, none) = c.loop-rest.invariant in
    let rest = c.loop-rest.rest.now in
    let took = c.in_ok-len.ensures in
    rw (next_taken c.args.piece.now y rest cut c.in_ok-len.len took.some.0.1, ← limit) (next_item g.V.Visitor.holds g.L.Levels.outer g.L.Levels.inner c.loop-rest.visitor c.loop-rest.levels c.loop-rest.self base x y rest (goes base x fed)
    c.take.new.visitor c.take.new.levels c.take.new.self c.in_ok-len.len took.goes took.some.1 took.some.2 (none item base x fed))

pub loop-rest-preserved : goal.loop-rest-preserved
loop-rest-preserved g c =
    let (y, cut, limit, at, goes, none) = c.loop-rest.invariant in
    let rest = c.loop-rest.rest.now in
    let n = c.in_ok-len.len in
    let took = c.in_ok-len.ensures in
    let new = c.take.new in
    let old = c.loop-rest in (
      y ++ take n rest,
      next_cut c.args.piece.now y rest cut n took.some.0.1,
      took.some.1 ∙ limit,
      omega (arith, at, took.some.2, length-append y (take n rest), length-take-le n rest took.some.0.1),
      λ base x fed.
          next_fed g.V.Visitor.holds g.L.Levels.outer g.L.Levels.inner old.visitor old.levels old.self base x y rest (goes base x fed) new.visitor new.levels new.self n took.goes took.some.1 took.some.2
          (bytes-right y rest (subst AreBytes cut (are_bytes c.args.piece.now c.type_inv.piece))),
      λ item base x fed.
          none_more g.V.Visitor.holds g.L.Levels.outer g.L.Levels.inner old.visitor old.levels old.self base x y rest (goes base x fed) new.visitor new.levels new.self n took.goes took.some.1 took.some.2 (none item base x fed)
          (elim c.else-matches.branch [ else-matches-via-then-matches+else-is_whole w ↦ w.if-is_whole.ensures.cut refl | else-matches-via-else-matches w ↦ absurd (elim c.match-matches.branch [ in-Item v ↦ false≢true (sym w.if-matches.false ∙ v.matches-is) | in_default v ↦ v.in_default.not-Item item ]) ]),
    )
