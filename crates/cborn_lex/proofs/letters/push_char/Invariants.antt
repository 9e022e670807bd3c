use Rattle.std.specs.Prelude.{◌≡◌, ◌++◌}
use Rattle.cborn_lex.proofs.Common.{length, take}
use Rattle.cborn_lex.proofs.letters.push_char.Given as goal

abbrev pub invariant-loop-byte : goal.invariant-loop-byte
invariant-loop-byte l = (l.bytes.items ≡ l.fn.bytes.items ++ take l.byte-index l.byte-items) × (take (length l.fn.bytes.items) l.bytes.items ≡ l.fn.bytes.items)
