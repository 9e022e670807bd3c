use Rattle.std.specs.Prelude.{◌≡◌, ◌++◌, ◌∷◌}
use Rattle.cborn_judge.proofs.Common.{rules, ℕ, Major, Option, [], length, refl, ap, ◌∙◌, false, subst, inside, code, unwrap_or, IsLeastHead, Appends, Level, opened, marks_of}
use Rattle.cborn_judge.proofs.Encoding.Finding.{finds_open}
use Rattle.cborn_judge.proofs.Encoding.Fronts.{IsLeastOf, front_there}
use Rattle.cborn_judge.proofs.Encoding.Standing.{stands_open, stands_same}
use Rattle.cborn_judge.proofs.encoders.Encoder.open_level.Goals as goal

pub returns : goal.returns
returns g c = λ f o opens old.
    let order = g.O.KeyOrder.order in
    let a = c.args in
    let e = a.self.now.encodings in
    let b = e.out.items in
    let ms = marks_of e.pairs in
    let out = c.put_head.new.out.items in
    let start : c.len-start.result ≡ length b = search rules in
    let len : c.len-self.result ≡ length out = search rules in
    let least : Appends (IsLeastOf a.container) b out =
    subst (λ (w : Major × Option ℕ). Appends (IsLeastHead (code w.0) (unwrap_or w.1 0)) b out) c.head-major.ensures (subst (λ n. Appends (IsLeastHead (code c.head-major.result.0) n) b out) c.unwrap_or.ensures c.in_ok-put_head.ensures.appended) in
    let (h, front, whole) = front_there a.container a.place o b out opens least in
    let m : Level = record { container = a.container; place = a.place; start = length b; content = c.len-self.result; pairs = length ms; count = 0; flawed = false } in
    let level : c.new-level.result ≡ opened a.container a.place (length b) (length ms) = c.new-level.ensures ∙ (λ i. opened a.container a.place (start i) (c.len.ensures i)) in (
      stands_same order (e.outer.items ++ e.innermost ∷ []) c.push.new.self.items m _ (inside f o []) ms ms (b ++ h) out c.in_ok-push.ensures.items (ap (λ (l : Level). record l { content = c.len-self.result }) level) refl whole
          (stands_open order e.outer.items e.innermost m f o ms b h opens front refl (len ∙ ap length whole) refl refl refl old.0),
      finds_open order f o a.self.now.flaw a.self.now.defect old.1,
    )
