use Rattle.std.specs.Prelude.{◌+◌, ◌++◌, ◌<◌, ◌∷◌}
use Rattle.cborn_wire.proofs.Common.{[], length, take, ap, subst, sym, ◌∙◌, arith, length-append, AreShortIntegers}
use Rattle.cborn_wire.proofs.ShortIntegers.{integers_more}
use Rattle.cborn_wire.proofs.Visiting.Pieces.{next_cut, all_taken}
use Rattle.cborn_wire.proofs.short_integers.integers_at.Goals as goal

pub loop-count-preserved : goal.loop-count-preserved
loop-count-preserved c =
    let (y, cut, most, read) = c.loop-count.invariant in
    let rest = c.loop-count.rest.now in
    let n = c.int_len-len.result in
    let some : 0 < n = omega (arith, c.if-len-eq0.false) in (
      y ++ take n rest,
      next_cut c.args.bytes.now y rest cut n c.int_len-len.ensures.len,
      omega (arith, c.loop-count-test.true),
      λ place.
          let (ts, are, count) = read place in
          let (t, is, short) = c.int_len-len.ensures.integer some (place + length y) in
          (ts ++ t ∷ [], integers_more place y (take n rest) ts t are is short, length-append ts (t ∷ []) ∙ ap (λ k. k + 1) count),
    )

pub returns-clause-integers : goal.returns-clause-integers
returns-clause-integers c = λ place.
    let (y, cut, most, read) = c.loop-count.invariant in
    let (ts, are, count) = read place in
    (ts, subst (λ z. AreShortIntegers place z ts) (sym (all_taken c.args.bytes.now y c.loop-count.rest.now cut)) are, count)
