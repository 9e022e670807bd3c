use Rattle.cborn_edn.proofs.Common.{arith, trees, utf8_bytes}
use Rattle.cborn_edn.proofs.Short.Facts.{notated_sound}
use Rattle.cborn_edn.proofs.readers.read_notation.Goals as goal

pub finish-requires : goal.finish-requires
finish-requires c =
    let e = c.in_ok-visit_text.ensures.nodes in
    (e.0, e.1, e.3, omega (arith, (notated_sound c.args.profile c.args.limit c.args.text.now (trees e.0) (utf8_bytes c.args.text.now c.utf8.text) e.2).low, c.get-most.ensures.value, c.get-most.ensures.most))
