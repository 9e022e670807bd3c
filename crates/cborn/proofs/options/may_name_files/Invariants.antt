use Rattle.std.proofs.Common.{◌≡◌, ◌≤◌, take}
use Rattle.cborn.specs.Words.{plain_count}
use Rattle.cborn.proofs.options.may_name_files.Given as goal

-- as many of the words so far are no options
abbrev pub invariant-loop-word : goal.invariant-loop-word
invariant-loop-word l = (l.count ≡ plain_count (take l.word-index l.words)) × (l.count ≤ l.word-index)
