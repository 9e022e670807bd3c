use Rattle.cborn_edn.proofs.Reader.Joints.{chunk_noted}
use Rattle.cborn_edn.proofs.strings.note_chunk.Goals as goal

pub returns : goal.returns
returns c = λ s e same. chunk_noted c.args.string s e c.are_same.result c.args.kind c.args.error.now c.note_unless.new.error c.note_string.new.error c.are_same.ensures c.note_unless.ensures (c.note_string.ensures s e same)
