use Rattle.cborn_edn.proofs.Common.{refl, arith, Word, Span, word, has}
use Rattle.cborn_edn.proofs.Reader.Taking.{went, modest_found, item_taken}
use Rattle.cborn_edn.proofs.quick_items.take_word.Goals as goal

pub put_word-requires : goal.put_word-requires
put_word-requires g c = modest_found c.requires.0 c.as_bytes.ensures.value (Word c.in-Some.n) c.in-Some.stop c.in-Some.ensures.token

pub returns : goal.returns
returns g c =
    let a : Span = record { start = c.args.here.now.at; stop = c.in-Some.stop } in
    went (item_taken c.requires.0 c.as_bytes.ensures.value (Word c.in-Some.n) c.in-Some.stop c.in-Some.ensures.token c.put_word.new.here c.put_word.new.writer c.requires.2 (λ st. has st (word a c.in-Some.n)) (λ st. refl) (λ st. c.in_ok-put_word.ensures st a refl) (λ st. refl) (omega arith))
