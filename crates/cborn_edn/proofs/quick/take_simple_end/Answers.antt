use Rattle.std.specs.Prelude.{◌+◌, ◌≡◌}
use Rattle.cborn_edn.proofs.Common.{refl, sym, ap, ◌∙◌, ℕ, List, arith, slice_index, ParenClose, Span, simple, states_around, has, has_number}
use Rattle.cborn_lex.specs.Good as good
use Rattle.cborn_edn.proofs.Lemmas.{single_here, stays, handed_close_simple, free_none, went, taken_from, simple_number, shown_as}
use Rattle.cborn_edn.proofs.quick.take_simple_end.Goals as goal

pub returns : goal.returns
returns g c =
    let r = c.requires.inside.0 in
    let at = c.args.here.now.at in
    let w = c.args.writer.now in
    let a : Span = record { start = at; stop = at + 1 } in
    let k = simple_number r c.requires.number in
    let was = has_number k.0 k.1 k.2 k.3 k.4 k.5 in
    let e = shown_as r was k.6 in
    let paren : slice_index c.args.source.text.now at ≡ 41 = ap (λ (x : List ℕ). slice_index x at) (sym c.as_bytes-bytes.ensures.value) ∙ c.if-bytes-here-ne41.false in
    went (taken_from r refl ParenClose (at + 1) (λ profile. single_here profile c.args.source.text.now at 41 ParenClose c.requires.inside.1 paren (λ z. good.paren_close z)) c.close_simple.new.here w was (has k.0 (simple k.1 k.2 k.3 k.4 k.5 a)) k.6 refl
    (record { shows = c.close_simple.ensures w w.pieces.items k.0 k.1 k.2 a k.3 k.4 k.5 e.shows; handed = stays (g.V.Visitor.holds c.args.visitor.now) w.spellers was (has k.0 (simple k.1 k.2 k.3 k.4 k.5 a)) (states_around k.0) (λ q. handed_close_simple q k.0 k.1 k.2 k.3 k.4 k.5 a) e.handed }) (free_none c.args.source.profile) (omega arith))
