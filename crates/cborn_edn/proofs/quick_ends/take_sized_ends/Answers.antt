use Rattle.std.specs.Prelude.{◌<◌, ◌+◌, if◌then◌else◌, ◌≡◌}
use Rattle.cborn_edn.proofs.Common.{refl, sym, ap, ◌∙◌, subst, arith, inl, List, ℕ, length, get_or, true, Span, sized_end, ends_sized, phase_of}
use Rattle.cborn_edn.proofs.Lemmas.{sized_end_here, end_taken, may_end, few_here, sized_kind, sized_low}
use Rattle.cborn_edn.proofs.Reader.Inverted.{ending, sized_at, sized_phase}
use Rattle.cborn_edn.proofs.quick_ends.take_sized_ends.Goals as goal

pub close_sized-requires-clause-small : goal.close_sized-requires-clause-small
close_sized-requires-clause-small g c = few_here c.brackets.invariant.0

pub brackets-preserved : goal.brackets-preserved
brackets-preserved g c =
    let r = c.brackets.invariant.0 in
    let here = c.brackets.here in
    let at = here.at in
    let m = c.args.is_map in
    let a : Span = record { start = at; stop = at + 1 } in
    let test = c.brackets-test.true in
    let text = c.as_bytes.ensures.value in
    let within = subst (λ (x : List ℕ). at < length x) text (c.closes.ensures.within test) in
    let bracket = subst (λ (x : List ℕ). get_or x at 0 ≡ (if m then 125 else 93)) text (c.closes.ensures.bracket test) in
    let kind = sized_kind m in
    let k = sized_at m r.state a (ending r.state (may_end r c.brackets.invariant.2)) (ap (ends_sized m (phase_of r.state)) (sym r.shows.shows.level) ∙ ap (λ y. ends_sized m y here.level) (sym r.shows.shows.phase) ∙ c.closes.ensures.ends test) in
    let step = c.in_ok-close_sized.ensures r.state k.0 a k.2 in
    let d = end_taken r refl (sized_end m) (at + 1) (λ profile. sized_end_here m profile c.args.source.text.now at within bracket) c.close_sized.new.here c.close_sized.new.writer kind.0 kind.1 true refl c.brackets.invariant.2 (λ may e. (k.0, k.1, step e)) (sized_low m _ _) in
    (d.0, omega (arith, c.brackets.invariant.1), inl ((step r.shows).shows.phase ∙ sized_phase k.2))
