use Rattle.cborn_wire.proofs.Common.{sym, subst, Some, Err, arith, Feeding, Feeds, held, IsReached, open_in, seen_nodes, pending, seen, are_bytes}
use Rattle.cborn_wire.proofs.Machine.SoundRuns.{reached_more}
use Rattle.cborn_wire.proofs.Feeding.FeederLaws.{accepts, fails}
use Rattle.cborn_wire.proofs.feeders.Feeder.feed.Goals as goal

pub returns-in-Err-clause-fed : goal.returns-in-Err-clause-fed
returns-in-Err-clause-fed c = λ none.
    let f = c.self.inside in
    let r = f.reader in
    let u = c.read_piece.new.reader in
    let items = c.read_piece.new.ready.items in
    let (made, (base, reached), at) = c.self.invariant c.in_default.is in
    let e = c.in-Err.fault in
    rw (c.in-Err.ensures.limit) (subst (λ (g : Feeding). Feeds c.args.piece.now g (Err e) (record { limit = r.heads.limit; fed = f.fed; held = held (seen items u); items = items; fault = Some e })) c.self.view_is
    (fails r.heads.limit base r.heads.at f.fed f.ready.items (open_in (seen_nodes r.nodes)) (pending r.heads.head r.nodes.string) reached (sym at) c.args.piece.now (held (seen items u)) items e f.fault (are_bytes c.args.piece.now c.type_inv.piece) c.in-Err.ensures.runs))

pub invariant_of-self-2 : goal.invariant_of-self-2
invariant_of-self-2 c = λ live.
    let f = c.self.inside in
    let r = f.reader in
    let u = c.read_piece.new.reader in
    let items = c.read_piece.new.ready.items in
    let piece = c.args.piece.now in
    let m = c.in_default-read_piece.ensures.runs in
    let (made, (base, reached), at) = c.self.invariant live in
    let later : IsReached r.heads.limit base (seen items u) = subst (IsReached r.heads.limit base) m.goes (reached_more r.heads.limit base (seen f.ready.items r) piece reached (are_bytes piece c.type_inv.piece)) in
    (m.made, (base, subst (λ k. IsReached k base (seen items u)) (sym m.limit) later), omega (arith, at, m.at))

pub returns-clause-fed : goal.returns-clause-fed
returns-clause-fed c =
    let f = c.self.inside in
    let r = f.reader in
    let u = c.read_piece.new.reader in
    let items = c.read_piece.new.ready.items in
    let m = c.in_default-read_piece.ensures.runs in
    let (made, (base, reached), at) = c.self.invariant c.in_default.is in
    rw (← c.self.view_is, m.limit) (λ none. accepts r.heads.limit base r.heads.at f.fed f.ready.items (open_in (seen_nodes r.nodes)) (pending r.heads.head r.nodes.string) reached (sym at) c.args.piece.now u.heads.at items (open_in (seen_nodes u.nodes)) (pending u.heads.head u.nodes.string) f.fault (are_bytes c.args.piece.now c.type_inv.piece) m.goes)
