use Rattle.std.specs.Prelude.{◌≡◌, ◌+◌, ◌++◌, ◌≤◌, take}
use Rattle.std.proofs.Common.{take_all}
use Rattle.cborn_engine.proofs.Common.{ℕ, List, [], length, false, Result, Ok, Err, IfOk, is_err, refl, sym, ap, ◌∙◌, subst, arith, rules, append-nil, append_assoc, length-append, AreBytes, are_bytes, Tree, trees, Ordering, Wellformed, IsEncoded, Holds, fresh_fed, whole, nil_from_length}
use Rattle.cborn_engine.specs.declared.kinds.Kind.TheVariants as kinds
use Rattle.cborn_judge.proofs.Following.Holding.{own_encodings}
use Rattle.cborn_judge.specs.devices.Following.{IsHeld}
use Rattle.cborn_model.specs.Partial.{Partial, Part}
use Rattle.cborn_wire.specs.declared.faults.VisitFault.{VisitFault}
use Rattle.cborn_wire.specs.declared.head_readers.HeadReader.{HeadReader}
use Rattle.cborn_wire.specs.declared.levels.Level.{Level}
use Rattle.cborn_wire.specs.shared.Visiting.{IsFed, Reads}
use Rattle.cborn_engine.proofs.fronts.follow_with.Goals as goal

-- the whole piece was read
read_whole : (holds : Partial → Part → Type 0) (outer : List Level) (l : Level) (m : HeadReader) (x piece : List ℕ) (r : Result ℕ VisitFault) → is_err r ≡ false → Reads holds outer l m 0 x piece r → IfOk r (λ n. n ≡ length piece) → IsFed holds outer l m 0 (x ++ piece)
read_whole holds outer l m x piece (Ok n) e fed all = subst (λ z. IsFed holds outer l m 0 (x ++ z)) (ap (λ k. take k piece) all ∙ take_all (length piece) piece (omega arith)) fed
read_whole holds outer l m x piece (Err why) e fed all = cc

read_at : (r : Result ℕ VisitFault) (at old n k : ℕ) → is_err r ≡ false → IfOk r (λ n. at ≡ old + n) → IfOk r (λ n. n ≡ k) → old ≡ n → at ≡ n + k
read_at (Ok i) at old n k e h all s = omega (arith, h, all, s)
read_at (Err why) at old n k e h all s = cc

pub pieces-init : goal.pieces-init
pieces-init g c =
    let m = c.new-heads.ensures in
    let most = c.in-Some.ensures.1 in
    ([], refl, m.1, omega (arith, m.0, most, c.min.ensures, c.get.ensures.value), omega (arith, m.0, most, c.min.ensures, c.requires.room), fresh_fed (IsHeld g.O.KeyOrder.order g.I.Input.input c.over-follower.result) _ _ c.in-Some.most 0 c.new-heads.result c.over-follower.ensures c.new-levels.ensures m)

pub pieces-preserved : goal.pieces-preserved
pieces-preserved g c =
    let (x, e, at, limit, most, fed) = c.pieces.invariant in
    let piece = c.split_at.result.0.now in
    let r = c.read-read.ensures in
    let ok : is_err c.read-read.result ≡ false = search rules in
    let all = r.end refl in (
      x ++ piece,
      e ∙ ap (λ z. x ++ z) (search rules) ∙ sym (append_assoc x piece c.split_at.result.1.now),
      read_at c.read-read.result c.read-read.new.self.at c.pieces.heads.at (length x) (length piece) ok r.at all at ∙ sym (length-append x piece),
      subst (λ n. n ≤ c.args.limit) (sym r.limit) limit,
      subst (λ n. n + 3 ≤ g.row.MOST) (sym r.limit) most,
      read_whole (IsHeld g.O.KeyOrder.order g.I.Input.input c.read-read.new.visitor) _ _ c.read-read.new.self x piece c.read-read.result ok (r.fed 0 x fed) all,
    )

pub returns-then-not-follower : goal.returns-then-not-follower
returns-then-not-follower g c ended =
    let order = g.O.KeyOrder.order in
    let bytes = c.args.bytes.now in
    let v = c.pieces.follower in
    let (x, e, at, limit, most, fed) = c.pieces.invariant in
    let same : x ≡ bytes = sym (e ∙ ap (λ z. x ++ z) (nil_from_length c.pieces.rest.now (search rules)) ∙ append-nil x) in
    let (ts, held, read, placed, is) = whole (IsHeld order g.I.Input.input v) _ _ c.pieces.heads 0 x fed (c.is_whole.ensures.whole ended) in
    let input : x ≡ g.I.Input.input = same ∙ c.requires.input in
    let none : v.departed ≡ false = search rules in
    let own = own_encodings order g.I.Input.input v ts none held (subst AreBytes input fed.0) (read.spells ∙ input) placed in
    let well : Wellformed c.args.limit (trees ts) bytes = record { spells = read.spells ∙ same; fit = read.fit; shallow = omega (arith, read.shallow, limit) } in
    subst (λ z. IsEncoded order kinds.Wire c.args.limit bytes z) (sym c.requires.input) (record { items = own.0; held = record { nodes = ts; spelled = well; meant = own.1 }; encoded = own.3 })
