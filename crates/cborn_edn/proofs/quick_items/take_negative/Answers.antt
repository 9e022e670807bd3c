use Rattle.cborn_edn.proofs.Common.{refl, arith, true, Number, Absent, Span, number, has}
use Rattle.cborn_edn.proofs.Reader.Taking.{went, item_taken, number_low}
use Rattle.cborn_edn.proofs.quick_items.take_negative.Goals as goal

pub returns : goal.returns
returns g c =
    let a : Span = record { start = c.args.here.now.at; stop = c.in-Some.stop } in
    went (item_taken c.requires.wanting.0 c.as_bytes.ensures.value (Number true c.in-Some.n Absent) c.in-Some.stop c.in-Some.ensures.token c.put_number.new.here c.put_number.new.writer c.requires.wanting.2 (λ st. has st (number a true c.in-Some.n Absent)) (λ st. refl) (λ st. c.in_ok-put_number.ensures st a refl) (λ st. refl) (number_low _ c.args.source.limit true c.in-Some.n Absent (omega arith) (omega arith)))
