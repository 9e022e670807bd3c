use Rattle.std.specs.Prelude.{◌++◌}
use Rattle.cborn_det.proofs.Common.{drop, List, Entry, IsWritten, entries_of}
use Rattle.cborn_det.proofs.entries.entries_in.Given as goal

-- the entries so far, and those of what is left
abbrev pub invariant-loop-key_len : goal.invariant-loop-key_len
invariant-loop-key_len l = (es : List Entry) × IsWritten es (drop l.key_len-index l.lengths) l.rest × IsWritten (entries_of l.entries.items ++ es) l.lengths l.written
