use Rattle.std.specs.Prelude.{◌≡◌, ◌⊎◌}
use Rattle.cborn_edn.proofs.Common.{refl, sym, ◌∙◌, arith, false≢true, Wants, WantsMore, Span, wants, opening, after_opening}
use Rattle.cborn_edn.proofs.Reader.Taking.{went, item_taken, opened_by, opened_free, opened_low}
use Rattle.cborn_edn.proofs.quick_items.take_marked.Goals.{in-Wants, in_default}
use Rattle.cborn_edn.proofs.quick_items.take_marked.Goals as goal

pub returns : goal.returns
returns g c =
    let m = c.in-Some.is_map in
    let mark = c.in-Some.mark in
    let a : Span = record { start = c.args.here.now.at; stop = c.in-Some.stop } in
    let wanted : (c.args.here.now.phase ≡ Wants) ⊎ (c.args.here.now.phase ≡ WantsMore) = elim c.match-matches.branch [
      | in-Wants w ↦ w.in-Wants.is
      | in_default w ↦ absurd (false≢true (sym w.matches-is ∙ c.if-not-matches.false))
    ] in
    went (item_taken c.requires.0 c.as_bytes.ensures.value (opening m mark) c.in-Some.stop c.in-Some.ensures.token c.open_sized.new.here c.open_sized.new.writer wanted
    (λ st. wants (after_opening m st a mark)) (λ st. opened_by m st a mark) (λ st. c.in_ok-open_sized.ensures st a refl) (λ st. opened_free m st mark) (opened_low m mark _ _ (omega arith)))
