use Rattle.std.specs.Prelude.{◌+◌, ◌<◌}
use Rattle.cborn_lex.proofs.Common.{length, arith, inl, inr, cases_lt}
use Rattle.cborn_lex.proofs.Runs.{unit_escape}
use Rattle.cborn_lex.proofs.letters.push_escape.Goals as goal

pub returns-then-second-eq117-clause-escape : goal.returns-then-second-eq117-clause-escape
returns-then-second-eq117-clause-escape c =
    let n = c.in-Some.c in
    let near : c.args.at + 1 < length c.args.tail.now = omega (arith, c.requires.inside, c.if-at-tail.false) in
    elim (cases_lt n 0x1_0000) [
      | inl l ↦ (n, 6, unit_escape c.args.quote c.args.tail.now c.rest_of.result.now c.args.at n 6 near c.if-second-eq117.true c.rest_of.ensures (c.in-Some.ensures.one l), omega (arith, c.len_utf16.ensures.bmp l), c.in_ok-push_char.ensures.written)
      | inr l ↦ (n, 12, unit_escape c.args.quote c.args.tail.now c.rest_of.result.now c.args.at n 12 near c.if-second-eq117.true c.rest_of.ensures (c.in-Some.ensures.two l), omega (arith, c.len_utf16.ensures.surrogate_pair l), c.in_ok-push_char.ensures.written)
    ]
