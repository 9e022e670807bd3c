use Rattle.std.specs.Prelude.{if◌then◌else◌}
use Rattle.cborn_edn.proofs.Common.{refl, arith, false, subst, Bool, Number, TagOpen, Span, IsTokenAt, has_number}
use Rattle.cborn_edn.proofs.Reader.Taking.{went, number_taken, number_low}
use Rattle.cborn_edn.proofs.quick.take_simple_number.Goals as goal

pub returns : goal.returns
returns g c =
    let i = c.in-Some.found in
    let a : Span = record { start = c.args.here.now.at; stop = i.stop } in
    went (number_taken c.requires.inside.0 c.as_bytes.ensures.value (Number false i.number i.mark) i.stop (λ profile. subst (λ (b : Bool). IsTokenAt profile c.as_bytes.result.now c.args.here.now.at i.stop (if b then TagOpen i.number i.mark else Number false i.number i.mark)) c.if-found.false (c.in-Some.ensures.token profile))
    c.put_simple.new.here c.put_simple.new.writer c.requires.number (λ st s. has_number st s a false i.number i.mark) (λ st s. refl) (λ st s. c.in_ok-put_simple.ensures st s a refl) (number_low _ c.args.source.limit false i.number i.mark (omega arith) (omega arith)))
