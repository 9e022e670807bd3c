use Rattle.std.specs.Prelude.{◌++◌}
use Rattle.cborn_wire.proofs.Common.{arith, take, length-append, length-take-le, are_bytes}
use Rattle.cborn_wire.proofs.Visiting.Heads.{still_open, front_heads, more_heads, heads_go_on}
use Rattle.cborn_wire.proofs.Visiting.Pieces.{next_cut}
use Rattle.cborn_wire.proofs.counting.take_heads.Goals as goal

pub overflow_add-at : goal.overflow_add-at
overflow_add-at g c = grind (arith, length-append)

pub returns-then-len-eq0-clause-goes : goal.returns-then-len-eq0-clause-goes
returns-then-len-eq0-clause-goes g c = λ f base held keeps from some.
    let (y, cut, at, none, goes) = c.heads.invariant in
    let (h, now, kept, same, is) = goes f base held keeps from in
    let left = c.in_ok-len.ensures.none c.if-len-eq0.true in
    front_heads c.args.limit c.args.place f c.args.piece.now y c.heads.rest.now cut c.heads.at at h same is (g.V.Visitor.holds c.take_whole.new.visitor) (g.L.Levels.outer c.take_whole.new.levels) (g.L.Levels.inner c.take_whole.new.levels) (rw left.0 now) (rw left.1 kept)

pub returns-then-count-eq0-clause-goes : goal.returns-then-count-eq0-clause-goes
returns-then-count-eq0-clause-goes g c = λ f base held keeps from some.
    let (y, cut, at, none, goes) = c.heads.invariant in
    let (h, now, kept, same, is) = goes f base held keeps from in
    let all = still_open c.args.limit c.args.place f c.args.piece.now y c.heads.rest.now cut c.heads.at at h same is base (are_bytes c.args.piece.now c.type_inv.piece) from in
    let new = c.take_whole.new in
    more_heads c.args.limit c.args.place f c.args.piece.now y c.heads.rest.now cut c.heads.at at h same is (g.V.Visitor.holds new.visitor) (g.L.Levels.outer new.levels) (g.L.Levels.inner new.levels) c.in_ok-len.len c.in_ok-len.ensures.within (c.in_ok-len.ensures.goes h now kept all (omega (arith, c.if-len-eq0.false)))

pub returns-clause-goes : goal.returns-clause-goes
returns-clause-goes g c = λ f base held keeps from some.
    let (y, cut, at, none, goes) = c.heads.invariant in
    let (h, now, kept, same, is) = goes f base held keeps from in
    front_heads c.args.limit c.args.place f c.args.piece.now y c.heads.rest.now cut c.heads.at at h same is (g.V.Visitor.holds c.heads.visitor) (g.L.Levels.outer c.heads.levels) (g.L.Levels.inner c.heads.levels) now kept

pub heads-preserved : goal.heads-preserved
heads-preserved g c =
    let (y, cut, at, none, goes) = c.heads.invariant in
    let rest = c.heads.rest.now in
    let n = c.in_ok-len.len in
    let new = c.take_whole.new in
    let whole = c.in_ok-len.ensures.within in (
      y ++ take n rest,
      next_cut c.args.piece.now y rest cut n whole,
      omega (arith, at, length-append y (take n rest), length-take-le n rest whole),
      λ e. absurd (omega (arith, e, length-append y (take n rest), length-take-le n rest whole, c.if-len-eq0.false)),
      λ f base held keeps from.
          let (h, now, kept, same, is) = goes f base held keeps from in
          let all = still_open c.args.limit c.args.place f c.args.piece.now y rest cut c.heads.at at h same is base (are_bytes c.args.piece.now c.type_inv.piece) from in
          heads_go_on c.args.limit c.args.place f c.args.piece.now y rest cut c.heads.at at h same is (g.V.Visitor.holds new.visitor) (g.L.Levels.outer new.levels) (g.L.Levels.inner new.levels) n whole (c.in_ok-len.ensures.goes h now kept all (omega (arith, c.if-len-eq0.false))) (omega (arith, c.if-count-eq0.false, c.count.ensures)),
    )
