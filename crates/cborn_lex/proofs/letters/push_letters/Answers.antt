use Rattle.std.specs.Prelude.{◌+◌, ◌<◌}
use Rattle.cborn_lex.proofs.Common.{length, arith}
use Rattle.cborn_lex.proofs.Runs.{still, run_more, escape_more, escape_within, letters_end, none_at_end, none_at_control, none_at_escape}
use Rattle.cborn_lex.proofs.letters.push_letters.Goals as goal

pub returns-then-at-tail-clause-letters : goal.returns-then-at-tail-clause-letters
returns-then-at-tail-clause-letters c = λ old s. none_at_end c.args.quote c.args.tail.now old c.push_run.new.out.items (c.letters.at + c.in_ok-n.n) c.requires.double_or_single (run_more c.args.quote c.args.tail.now old c.letters.out.items c.push_run.new.out.items c.letters.at c.in_ok-n.n c.in_ok-n.ensures.plain c.in_ok-n.ensures.written (c.letters.invariant.1 old s)) (omega (arith, c.if-at-tail.true))

pub returns-then-c-quote-clause-letters : goal.returns-then-c-quote-clause-letters
returns-then-c-quote-clause-letters c =
    let near : c.letters.at + c.in_ok-n.n < length c.args.tail.now = omega (arith, c.in_ok-n.ensures.within, c.if-at-tail.false) in
    (near, λ old s. letters_end c.args.quote c.args.tail.now old c.push_run.new.out.items (c.letters.at + c.in_ok-n.n) near c.if-c-quote.true (run_more c.args.quote c.args.tail.now old c.letters.out.items c.push_run.new.out.items c.letters.at c.in_ok-n.n c.in_ok-n.ensures.plain c.in_ok-n.ensures.written (c.letters.invariant.1 old s)))

pub returns-then-c-ne92-clause-letters : goal.returns-then-c-ne92-clause-letters
returns-then-c-ne92-clause-letters c =
    let near : c.letters.at + c.in_ok-n.n < length c.args.tail.now = omega (arith, c.in_ok-n.ensures.within, c.if-at-tail.false) in
    λ old s. none_at_control c.args.quote c.args.tail.now old c.push_run.new.out.items (c.letters.at + c.in_ok-n.n) c.requires.double_or_single (run_more c.args.quote c.args.tail.now old c.letters.out.items c.push_run.new.out.items c.letters.at c.in_ok-n.n c.in_ok-n.ensures.plain c.in_ok-n.ensures.written (c.letters.invariant.1 old s)) near c.if-c-quote.false c.if-c-ne92.true (c.in_ok-n.ensures.ends near)

pub letters-smaller : goal.letters-smaller
letters-smaller c =
    let after = c.in_ok-at-in-Some.ensures.within.0 in
    let near : c.letters.at + c.in_ok-n.n < length c.args.tail.now = omega (arith, c.in_ok-n.ensures.within, c.if-at-tail.false) in
    let h = rw c.in-Some.is at c.in_ok-end.ensures.escape in
    let w = escape_within c.args.quote c.args.tail.now (c.letters.at + c.in_ok-n.n) h.0 h.1 near c.if-c-ne92.false h.2 in
    let e = h.3 in
    let i = w.0 in
    let j = w.1 in
    omega arith

pub letters-preserved : goal.letters-preserved
letters-preserved c =
    let near : c.letters.at + c.in_ok-n.n < length c.args.tail.now = omega (arith, c.in_ok-n.ensures.within, c.if-at-tail.false) in
    let h = rw c.in-Some.is at c.in_ok-end.ensures.escape in
    let w = escape_within c.args.quote c.args.tail.now (c.letters.at + c.in_ok-n.n) h.0 h.1 near c.if-c-ne92.false h.2 in
    let e = h.3 in
    (c.in_ok-at-in-Some.ensures.within.1, λ old s. c.in_ok-at-in-Some.ensures.letters old (rw e (escape_more c.args.quote c.args.tail.now old c.push_run.new.out.items c.push_escape.new.out.items (c.letters.at + c.in_ok-n.n) h.0 h.1 c.requires.double_or_single near c.if-c-ne92.false h.2 h.4 (run_more c.args.quote c.args.tail.now old c.letters.out.items c.push_run.new.out.items c.letters.at c.in_ok-n.n c.in_ok-n.ensures.plain c.in_ok-n.ensures.written (c.letters.invariant.1 old s)))), still c.args.out.now.items c.push_escape.new.out.items c.push_short_runs.new.out.items (still c.args.out.now.items c.push_run.new.out.items c.push_escape.new.out.items (still c.args.out.now.items c.letters.out.items c.push_run.new.out.items c.letters.invariant.2 c.push_run.ensures.before) c.push_escape.ensures.before) c.push_short_runs.ensures.before)

pub returns-in-None-clause-letters : goal.returns-in-None-clause-letters
returns-in-None-clause-letters c =
    let near : c.letters.at + c.in_ok-n.n < length c.args.tail.now = omega (arith, c.in_ok-n.ensures.within, c.if-at-tail.false) in
    let h = rw c.in-None.is at c.in_ok-end.ensures.escape in
    λ old s. none_at_escape c.args.quote c.args.tail.now old c.push_run.new.out.items (c.letters.at + c.in_ok-n.n) c.requires.double_or_single near c.if-c-ne92.false h (run_more c.args.quote c.args.tail.now old c.letters.out.items c.push_run.new.out.items c.letters.at c.in_ok-n.n c.in_ok-n.ensures.plain c.in_ok-n.ensures.written (c.letters.invariant.1 old s))

pub returns-clause-letters : goal.returns-clause-letters
returns-clause-letters c = λ old s. none_at_end c.args.quote c.args.tail.now old c.letters.out.items c.letters.at c.requires.double_or_single (c.letters.invariant.1 old s) (omega (arith, c.letters-test.false))
