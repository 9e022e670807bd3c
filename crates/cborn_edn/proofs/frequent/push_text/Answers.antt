use Rattle.std.specs.Prelude.{◌+◌, ◌-◌}
use Rattle.cborn_edn.proofs.Common.{length, take, drop, take_rest, none_yet}
use Rattle.cborn_edn.proofs.Reader.Items.{text_at}
use Rattle.cborn_edn.proofs.frequent.push_text.Goals as goal

pub returns-clause-taken : goal.returns-clause-taken
returns-clause-taken c =
    let text = c.args.text.now in
    let at = c.args.at.now in
    let old = c.args.out.now.items in
    let tail = take (length text - (at + 1)) (drop (at + 1) text) in
    let found = rw c.in-Some.is at c.in_ok-len.ensures.letters in
    let t = found.1 old (none_yet 34 tail old) in λ h. (
      t.bytes,
      t.added,
      text_at c.args.profile text tail t.bytes at c.in-Some.len c.in-Some-end_of_string.stop c.requires.inside c.requires.quote (take_rest text (at + 1)) t.within t.quote t.inside t.is c.in-Some-end_of_string.ensures.no_mark c.in-Some-end_of_string.ensures.white_space c.in-Some-end_of_string.ensures.ends c.in-Some-end_of_string.ensures.within,
    )
