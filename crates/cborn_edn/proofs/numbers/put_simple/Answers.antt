use Rattle.cborn_edn.proofs.Common.{sym, arith}
use Rattle.cborn_edn.proofs.Lemmas.{simple_fits}
use Rattle.cborn_edn.proofs.numbers.put_simple.Goals as goal

pub overflow_cast-event : goal.overflow_cast-event
overflow_cast-event g c =
    let n = c.args.numeral in
    let fits = simple_fits c.args.writer.now.error c.note_simple.new.error (sym c.if-not-is_none.ensures) c.args.writer.now.simple c.args.place n.negative n.magnitude n.mark c.note_simple.ensures in
    omega (arith, fits.1)

pub hand-requires : goal.hand-requires
hand-requires g c = λ none.
    let n = c.args.numeral in
    (simple_fits c.args.writer.now.error c.note_simple.new.error none c.args.writer.now.simple c.args.place n.negative n.magnitude n.mark c.note_simple.ensures).0
