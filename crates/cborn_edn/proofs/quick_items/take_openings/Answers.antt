use Rattle.std.specs.Prelude.{◌+◌}
use Rattle.cborn_edn.proofs.Common.{refl, arith, inl, ◌∙◌, Absent, Span, wants, opening, after_opening}
use Rattle.cborn_edn.proofs.Reader.Taking.{item_taken, opened_by, opened_free, opened_low, opened_wants, shown_as, wanted}
use Rattle.cborn_edn.proofs.quick_items.take_openings.Goals as goal

pub brackets-preserved : goal.brackets-preserved
brackets-preserved g c =
    let r = c.brackets.invariant.0 in
    let m = c.args.is_map in
    let at = c.brackets.here.at in
    let a : Span = record { start = at; stop = at + 1 } in
    let d = item_taken r c.as_bytes.ensures.value (opening m Absent) (at + 1) (c.opens_at.ensures.token c.brackets-test.true) c.open_sized.new.here c.open_sized.new.writer c.brackets.invariant.2 (λ st. wants (after_opening m st a Absent)) (λ st. opened_by m st a Absent) (λ st. c.in_ok-open_sized.ensures st a refl) (λ st. opened_free m st Absent) (opened_low m Absent _ _ (omega arith)) in
    let i = wanted r c.brackets.invariant.2 in
    (d.0, omega (arith, c.brackets.invariant.1), inl ((c.in_ok-open_sized.ensures i.0 a refl (shown_as r (wants i.0) i.1)).shows.phase ∙ opened_wants m i.0 a Absent))
