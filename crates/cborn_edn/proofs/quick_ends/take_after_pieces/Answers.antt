use Rattle.std.specs.Prelude.{◌+◌}
use Rattle.cborn_edn.proofs.Common.{refl, not, sym, ap, ◌∙◌, ℕ, List, get_or, inr, arith, false≢true, ends_string, Comma, ParenClose, Span, strings, after_strings, chunked as chunked_item, as_chunk, builds, wants_chunk, has}
use Rattle.cborn_lex.specs.Good as good
use Rattle.cborn_edn.proofs.Reader.CommonTokens.{single_here}
use Rattle.cborn_edn.proofs.Reader.Going.{free_none}
use Rattle.cborn_edn.proofs.Reader.Taking.{went, pieced, chunked, whole, taken_from}
use Rattle.cborn_edn.proofs.quick_ends.take_after_pieces.Goals as goal

pub end_item-requires : goal.end_item-requires
end_item-requires g c = grind (arith, pieced)

pub returns-then-is_none : goal.returns-then-is_none
returns-then-is_none g c =
    let k = pieced c.requires.inside.0 c.requires.builds (c.is_none.ensures ∙ ap not c.if-is_none.true) in (
      whole c.requires.inside.0 k.0 k.1 k.2 (inr (c.requires.inside.1, ap (λ (x : List ℕ). ends_string (get_or x c.args.here.now.at 0)) (sym c.as_bytes.ensures.value) ∙ sym c.ends_string.ensures ∙ c.if-not-ends_string.false)) c.end_item.new.here c.end_item.new.writer (c.in_ok-end_item.ensures k.0 k.1 k.3),
      omega arith,
      λ e. absurd (false≢true e),
    )

pub end_chunk-requires : goal.end_chunk-requires
end_chunk-requires g c =
    let k = chunked c.requires.inside.0 c.requires.builds (c.is_none.ensures ∙ ap not c.if-is_none.false) in
    (k.0, k.1, k.2, k.3, k.5)

pub end_chunk-requires-in-41 : goal.end_chunk-requires-in-41
end_chunk-requires-in-41 g c =
    let k = chunked c.requires.inside.0 c.requires.builds (c.is_none.ensures ∙ ap not c.if-is_none.false) in
    (k.0, k.1, k.2, k.3, k.5)

pub returns-in_ok-end_chunk-in-44 : goal.returns-in_ok-end_chunk-in-44
returns-in_ok-end_chunk-in-44 g c =
    let at = c.args.here.now.at in
    let a : Span = record { start = at; stop = at + 1 } in
    let k = chunked c.requires.inside.0 c.requires.builds (c.is_none.ensures ∙ ap not c.if-is_none.false) in
    went (taken_from c.requires.inside.0 refl Comma (at + 1) (λ profile. single_here profile c.args.source.text.now at 44 Comma c.requires.inside.1 (ap (λ (x : List ℕ). get_or x at 0) (sym c.as_bytes-2.ensures.value) ∙ c.in-44.is) (λ z. good.comma z)) c.end_chunk.new.here c.end_chunk.new.writer (builds (as_chunk k.0 k.1 k.2) k.3) (wants_chunk k.0 k.1 (after_strings (strings k.2 k.3) a)) k.4 refl (c.in_ok-end_chunk-in-44.ensures k.0 k.1 a k.2 k.3 k.5) (free_none c.args.source.profile) (omega arith))

pub returns-in_ok-end_chunks-in-41 : goal.returns-in_ok-end_chunks-in-41
returns-in_ok-end_chunks-in-41 g c =
    let at = c.args.here.now.at in
    let a : Span = record { start = at; stop = at + 1 } in
    let k = chunked c.requires.inside.0 c.requires.builds (c.is_none.ensures ∙ ap not c.if-is_none.false) in
    went (taken_from c.requires.inside.0 refl ParenClose (at + 1) (λ profile. single_here profile c.args.source.text.now at 41 ParenClose c.requires.inside.1 (ap (λ (x : List ℕ). get_or x at 0) (sym c.as_bytes-2.ensures.value) ∙ c.in-41.is) (λ z. good.paren_close z)) c.end_chunks.new.here c.end_chunks.new.writer (builds (as_chunk k.0 k.1 k.2) k.3) (has k.0 (chunked_item k.1 (strings k.2 k.3) a)) k.4 refl (c.in_ok-end_chunks-in-41.ensures k.0 k.1 a a (strings k.2 k.3) (c.in_ok-end_chunk-in-41.ensures k.0 k.1 a k.2 k.3 k.5)) (free_none c.args.source.profile) (omega arith))
