use Rattle.std.specs.Prelude.{◌-◌, ◌+◌, ◌≡◌, ◌<◌}
use Rattle.cborn_edn.proofs.Common.{◌∙◌, sym, arith, take, length, reverse}
use Rattle.cborn_edn.specs.Common.{Integer}
use Rattle.cborn_edn.proofs.Lemmas.{reverse-at, reverse-set, on_ok, taken}
use Rattle.cborn_edn.proofs.spellers.Spellers.integer.Goals as goal

pub returns : goal.returns
returns c =
    let xs = c.self.inside.spellers.items in
    let n = c.self.inside.depth in
    let p = c.index_mut.result.now in
    let q = c.integer.new.self in
    let is : n ≡ n - 1 + 1 = omega (arith, c.if-self-eq0.false) in
    let few : n - 1 < length xs = omega (arith, c.if-self-eq0.false, c.self.invariant) in
    on_ok c.integer.result (λ held content. taken (Integer c.args.negative c.args.width c.args.n) c.args.place content p q c.args.self.now (reverse (take (n - 1) xs)) _ (sym c.self.view_is ∙ reverse-at xs (n - 1) n p is few c.index_mut.ensures.value) (reverse-set xs (n - 1) n q is few) held) c.integer.ensures.held
