use Rattle.std.specs.Prelude.{◌<◌, ◌≤◌, ◌+◌}
use Rattle.cborn_lex.proofs.Common.{ℕ, List, length, subst, sym, arith, take-length, LettersSoFar}
use Rattle.cborn_lex.proofs.Runs.{short_run, short_run_more, left_more, escape_more, still}
use Rattle.cborn_lex.proofs.letters.push_short_runs.Goals as goal
use lib.Count.{count_trailing_zeros}

pub escapes-init : goal.escapes-init
escapes-init c = grind (arith, take-length)

pub returns-then-tail-at-ne92-clause-letters : goal.returns-then-tail-at-ne92-clause-letters
returns-then-tail-at-ne92-clause-letters c =
    let room : c.args.from + 64 ≤ length c.args.tail.now = omega (arith, c.if-tail-from-lt96.false, c.requires.within) in
    λ old s. short_run_more c.args.quote c.args.tail.now old c.escapes.out.items c.push_block.new.out.items c.args.from c.escapes.at c.escapes.left c.escapes.invariant.0 room c.escapes.invariant.2 c.escapes-test.true c.in_ok-push_block.ensures.written (c.escapes.invariant.3 old s)

pub returns-then-not-branch-clause-letters : goal.returns-then-not-branch-clause-letters
returns-then-not-branch-clause-letters c =
    let room : c.args.from + 64 ≤ length c.args.tail.now = omega (arith, c.if-tail-from-lt96.false, c.requires.within) in
    let same = (c.in_ok-push_short_escape.ensures.none c.if-not-branch.true).1 in
    λ old s. subst (λ (new : List ℕ). LettersSoFar c.args.quote c.args.tail.now (c.escapes.at + count_trailing_zeros 64 c.escapes.left) old new) (sym same) (short_run_more c.args.quote c.args.tail.now old c.escapes.out.items c.push_block.new.out.items c.args.from c.escapes.at c.escapes.left c.escapes.invariant.0 room c.escapes.invariant.2 c.escapes-test.true c.in_ok-push_block.ensures.written (c.escapes.invariant.3 old s))

pub escapes-preserved : goal.escapes-preserved
escapes-preserved c =
    let room : c.args.from + 64 ≤ length c.args.tail.now = omega (arith, c.if-tail-from-lt96.false, c.requires.within) in
    let near = (short_run c.args.quote c.args.tail.now c.args.from c.escapes.at c.escapes.left c.escapes.invariant.0 room c.escapes.invariant.2 c.escapes-test.true).0 in
    let inside : c.escapes.at + count_trailing_zeros 64 c.escapes.left < length c.args.tail.now = omega (arith, near, c.if-tail-from-lt96.false, c.requires.within) in
    let escape = c.in_ok-push_short_escape.ensures.escape c.if-not-branch.false in (
      omega (arith, c.escapes.invariant.0),
      omega (arith, near),
      left_more c.args.quote c.args.tail.now (c.args.from + 64) c.escapes.at (count_trailing_zeros 64 c.escapes.left) c.escapes.left c.escapes.invariant.2,
      λ old s. escape_more c.args.quote c.args.tail.now old c.push_block.new.out.items c.push_short_escape.new.out.items (c.escapes.at + count_trailing_zeros 64 c.escapes.left) escape.0 2 c.requires.double_or_single inside c.if-tail-at-ne92.false escape.1 escape.2 (short_run_more c.args.quote c.args.tail.now old c.escapes.out.items c.push_block.new.out.items c.args.from c.escapes.at c.escapes.left c.escapes.invariant.0 room c.escapes.invariant.2 c.escapes-test.true c.in_ok-push_block.ensures.written (c.escapes.invariant.3 old s)),
      still c.args.out.now.items c.push_block.new.out.items c.push_short_escape.new.out.items (still c.args.out.now.items c.escapes.out.items c.push_block.new.out.items c.escapes.invariant.4 c.push_block.ensures.before) c.push_short_escape.ensures.before,
    )
