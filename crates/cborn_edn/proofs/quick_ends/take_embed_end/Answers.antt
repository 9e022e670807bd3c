use Rattle.cborn_edn.proofs.Common.{refl, arith, inl, EmbedClose, Span}
use Rattle.cborn_lex.specs.declared.classes.Kind.TheVariants as kinds
use Rattle.cborn_edn.proofs.Reader.Taking.{went, end_taken, may_end}
use Rattle.cborn_edn.proofs.quick_ends.take_embed_end.Goals as goal

pub end_embedded-requires : goal.end_embedded-requires
end_embedded-requires g c = (c.requires.inside.0.state, may_end c.requires.inside.0 (inl c.requires.has), c.requires.inside.0.shows)

pub returns : goal.returns
returns g c =
    let a : Span = record { start = c.args.here.now.at; stop = c.in-Some.stop } in
    went (end_taken c.requires.inside.0 c.as_bytes.ensures.value (EmbedClose c.in-Some.mark) c.in-Some.stop c.in-Some.ensures.token c.end_embedded.new.here c.end_embedded.new.writer (kinds.EmbedClose c.in-Some.mark) refl c.in_ok-end_embedded.field-0 c.if-not-branch.false (inl c.requires.has) (λ may e. c.in_ok-end_embedded.ensures.taken c.requires.inside.0.state a refl may e) (omega arith))
