use Rattle.cborn_edn.proofs.Common.{ap, length}
use Rattle.cborn_edn.proofs.Reader.Joints.{string_noted, string_unknown}
use Rattle.cborn_edn.proofs.strings.note_string.Goals as goal

pub returns-then-string : goal.returns-then-string
returns-then-string c = λ s e same.
    string_noted c.args.string s e c.args.may_end c.is_good.result c.args.content.now c.args.error.now c.note_mark.new.error c.note_unless.new.error same (c.note_mark.ensures s e (λ k. ap length (same k))) c.if-string.true c.is_good.ensures c.note_unless.ensures

pub returns-else-string : goal.returns-else-string
returns-else-string c = λ s e same. string_unknown c.args.string s e c.args.may_end c.args.error.now c.note_mark.new.error (c.note_mark.ensures s e (λ k. ap length (same k))) c.if-string.false
