use Rattle.std.specs.Prelude.{if◌then◌else◌}
use Rattle.cborn_edn.proofs.Common.{refl, arith, false, subst, Bool, Number, TagOpen, IsTokenAt, Span, number, wants, in_tag, has}
use Rattle.cborn_edn.proofs.Reader.Taking.{went, item_taken, number_low}
use Rattle.cborn_edn.proofs.quick_items.take_integer.Goals as goal

pub returns-then-found : goal.returns-then-found
returns-then-found g c =
    let i = c.in-Some.found in
    let a : Span = record { start = c.args.here.now.at; stop = i.stop } in
    went (item_taken c.requires.0 c.as_bytes.ensures.value (TagOpen i.number i.mark) i.stop (λ profile. subst (λ (b : Bool). IsTokenAt profile c.as_bytes.result.now c.args.here.now.at i.stop (if b then TagOpen i.number i.mark else Number false i.number i.mark)) c.if-found.true (c.in-Some.ensures.token profile))
    c.open_tag.new.here c.open_tag.new.writer c.requires.2 (λ st. wants (in_tag st a i.number i.mark)) (λ st. refl) (λ st. c.in_ok-open_tag.ensures st a refl) (λ st. refl) (omega arith))

pub returns : goal.returns
returns g c =
    let i = c.in-Some.found in
    let a : Span = record { start = c.args.here.now.at; stop = i.stop } in
    went (item_taken c.requires.0 c.as_bytes.ensures.value (Number false i.number i.mark) i.stop (λ profile. subst (λ (b : Bool). IsTokenAt profile c.as_bytes.result.now c.args.here.now.at i.stop (if b then TagOpen i.number i.mark else Number false i.number i.mark)) c.if-found.false (c.in-Some.ensures.token profile))
    c.put_number.new.here c.put_number.new.writer c.requires.2 (λ st. has st (number a false i.number i.mark)) (λ st. refl) (λ st. c.in_ok-put_number.ensures st a refl) (λ st. refl) (number_low _ c.args.source.limit false i.number i.mark (omega arith) (omega arith)))
