use Rattle.cborn_engine.proofs.Common.{subst, trees}
use Rattle.cborn_edn.specs.ShownBytes.{Notates}
use Rattle.cborn_engine.proofs.Answers.{no_reading}
use Rattle.cborn_engine.proofs.Held.BadTexts.{held_shows}
use Rattle.cborn_engine.proofs.slices.fixed_text.Goals as goal

pub unreachable-requires : goal.unreachable-requires
unreachable-requires c =
    no_reading c.args.limit c.args.bytes.now (c.in-Malformed.place, c.in-Malformed.reason, subst (Notates c.args.limit c.args.bytes.now) c.in-Malformed.is c.in_ok-text.ensures) (trees c.requires.1.nodes, c.requires.1.spelled)

pub unreachable-requires-in-NotUtf8 : goal.unreachable-requires-in-NotUtf8
unreachable-requires-in-NotUtf8 c =
    held_shows c.args.limit c.args.bytes.now c.requires.0 c.requires.1 c.in-NotUtf8.place (subst (Notates c.args.limit c.args.bytes.now) c.in-NotUtf8.is c.in_ok-text.ensures)
