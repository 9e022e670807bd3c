use Rattle.std.specs.Prelude.{◌≡◌, ◌+◌}
use Rattle.cborn_wire.proofs.Common.{refl, sym, subst, take, arith, no_part, ready_in, run, IsReached, AtMostOneMore, state, Keeps, HereAt, TakesPiece}
use Rattle.cborn_wire.proofs.Visiting.Taking.{between_here, here_room, reached_open, stands_here}
use Rattle.cborn_wire.proofs.head_readers.HeadReader.take.Goals as goal

pub take_argument-requires-clause-open : goal.take_argument-requires-clause-open
take_argument-requires-clause-open g c =
    let m = c.args.self.now in
    let l = c.args.levels.now in
    let (s, base, here, from) = c.requires.here in
    (here_room m.limit g.L.Levels.most base (g.V.Visitor.holds c.args.visitor.now) (g.L.Levels.outer l) (g.L.Levels.inner l) m.left m.at m.head s c.requires.levels here from)

pub take_head-requires-clause-open : goal.take_head-requires-clause-open
take_head-requires-clause-open g c =
    let m = c.args.self.now in
    let l = c.args.levels.now in
    let (s, base, here, from) = c.requires.here in
    rw ((c.in_ok-len.ensures.none (omega (arith, c.if-len-gt0.false))).1) (here_room m.limit g.L.Levels.most base (g.V.Visitor.holds c.args.visitor.now) (g.L.Levels.outer l) (g.L.Levels.inner l) m.left m.at m.head s c.requires.levels here from)

pub returns-clause-goes : goal.returns-clause-goes
returns-clause-goes g c = λ s base here from.
    let m = c.args.self.now in
    let l = c.args.levels.now in
    let (f, held, keeps, is) = between_here (g.V.Visitor.holds c.args.visitor.now) (g.L.Levels.outer l) (g.L.Levels.inner l) m.left m.at m.head s c.in_default.is (omega (arith, c.if-self-gt0.false)) here in
    let same = c.in_ok-len.ensures.none (omega (arith, c.if-len-gt0.false)) in
    let new = c.take_head.new in
    subst (λ u. TakesPiece m.limit u c.args.piece.now (g.V.Visitor.holds new.visitor) (g.L.Levels.outer new.levels) (g.L.Levels.inner new.levels) new.self.left m.at new.self.head c.take_head.result) (sym is)
    (c.take_head.ensures.goes f (subst (λ v. g.V.Visitor.holds v f no_part) (sym same.0) held) (subst (λ k. Keeps f (g.L.Levels.outer k) (g.L.Levels.inner k)) (sym same.1) keeps) (reached_open m.limit base s m.at _ _ _ from is))

pub returns-then-len-gt0-clause-goes : goal.returns-then-len-gt0-clause-goes
returns-then-len-gt0-clause-goes g c = λ s base here from.
    let m = c.args.self.now in
    let l = c.args.levels.now in
    let zero : m.left ≡ 0 = omega (arith, c.if-self-gt0.false) in
    let (f, held, keeps, is) = between_here (g.V.Visitor.holds c.args.visitor.now) (g.L.Levels.outer l) (g.L.Levels.inner l) m.left m.at m.head s c.in_default.is zero here in
    let n = c.in_ok-len.len in
    let new = c.take_heads.new in
    let holds = g.V.Visitor.holds new.visitor in
    let outer = g.L.Levels.outer new.levels in
    let inner = g.L.Levels.inner new.levels in
    let (stands, more) = c.in_ok-len.ensures.goes f base held keeps (subst (IsReached m.limit base) is from) c.if-len-gt0.true in
    subst (λ u. HereAt holds outer inner m.left (m.at + n) m.head (run m.limit u (take n c.args.piece.now)) × AtMostOneMore (ready_in u) (run m.limit u (take n c.args.piece.now))) (sym is)
    (subst (λ k. HereAt holds outer inner k (m.at + n) m.head (run m.limit (state m.at f no_part) (take n c.args.piece.now))) (sym zero) (stands_here holds outer inner 0 (m.at + n) m.head _ _ c.in_default.is refl stands), more)
