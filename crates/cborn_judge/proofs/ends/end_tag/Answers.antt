use Rattle.std.specs.Prelude.{◌≡◌, ◌⊎◌, ◌++◌, ◌∷◌}
use Rattle.cborn_judge.proofs.Common.{inl, inr, [], true, refl, sym, ap, ◌∙◌, subst, arith, append_assoc, length-append, last_of, Tagged, FindsDefect, LongAt, FlawAt, LooseAt, FindsFlaw, Coded, IsSound, AreEncodedAs}
use Rattle.cborn_judge.proofs.Encoding.Ends.{cut, number_of_bignum, only, tag_nothing, tag_flawless, tag_long, tag_coded}
use Rattle.cborn_judge.proofs.FirstDefect.{both_found}
use Rattle.cborn_judge.proofs.ends.end_tag.Goals as goal
use Rattle.cborn_judge.proofs.ends.end_tag.Goals.{then-number-eq2-via-then-number-eq2, then-number-eq2-via-else-number-eq2+then-number-eq3}

pub returns-then-number-eq2 : goal.returns-then-number-eq2
returns-then-number-eq2 c order ts x z ends is start inner =
    let l = c.args.level in
    let w = c.args.width in
    let n = c.args.number in
    let t = last_of ts in
    let tag : (n ≡ 2) ⊎ (n ≡ 3) = elim c.then-number-eq2.branch [
      | then-number-eq2-via-then-number-eq2 w ↦ inl (omega arith)
      | then-number-eq2-via-else-number-eq2+then-number-eq3 w ↦ inr (omega arith)
    ] in
    let same = number_of_bignum n tag in
    let (code, coded, new, flaw, loose) =
    c.in_ok-inner.ensures order t w x inner.front inner.contents (is ∙ ap (λ y. x ++ y) inner.whole ∙ sym (append_assoc x inner.front inner.contents)) start (omega (arith, inner.content, length-append x inner.front)) (subst (IsSound l.flawed) (only ts ends) inner.sound)
    (λ sound. subst (λ us. AreEncodedAs order us inner.contents) (only ts ends) (inner.contains.1 sound)) in (
      code,
      subst (λ k. Coded order (Tagged l.place w k t) code) same coded,
      new,
      subst (λ k. FindsFlaw (FlawAt (Tagged l.place w k t)) c.in_ok-inner.inner.flaw) same flaw,
      λ sound none. both_found (LongAt l.place w n) (LooseAt l.place n t) c.head_defect-long.result c.in_ok-inner.inner.defect c.earliest-defect.result c.head_defect-long.ensures (subst (λ k. FindsDefect (LooseAt l.place k t) c.in_ok-inner.inner.defect) same (loose none)) c.earliest-defect.ensures,
    )

pub returns-then-level : goal.returns-then-level
returns-then-level c order ts x z ends is start inner =
    let l = c.args.level in
    let w = c.args.width in
    let n = c.args.number in
    let t = last_of ts in
    let sound : IsSound true (t ∷ []) = subst (λ b. IsSound b (t ∷ [])) c.if-level.true (subst (IsSound l.flawed) (only ts ends) inner.sound) in (
      [],
      inr (refl, tag_nothing l.place w n t c.if-number-eq2.false c.if-number-eq3.false sound),
      cut l.start x z c.args.out.now.items c.truncate.new.self.items is start c.truncate.ensures.items,
      tag_flawless l.place w n t c.if-number-eq2.false c.if-number-eq3.false,
      λ b e. tag_long l.place w n t c.head_defect-long.result c.if-number-eq2.false c.if-number-eq3.false c.head_defect-long.ensures,
    )

pub returns-else-level : goal.returns-else-level
returns-else-level c order ts x z ends is start inner =
    let l = c.args.level in
    let w = c.args.width in
    let n = c.args.number in
    let t = last_of ts in
    let encoded : AreEncodedAs order (t ∷ []) inner.contents = subst (λ us. AreEncodedAs order us inner.contents) (only ts ends) (inner.contains.1 c.if-level.false) in (
      inner.front ++ inner.contents,
      tag_coded order l.place w n t inner.front inner.contents c.if-number-eq2.false c.if-number-eq3.false c.ranges.number.fits inner.begins encoded,
      is ∙ ap (λ y. x ++ y) inner.whole,
      tag_flawless l.place w n t c.if-number-eq2.false c.if-number-eq3.false,
      λ b e. tag_long l.place w n t c.head_defect-long.result c.if-number-eq2.false c.if-number-eq3.false c.head_defect-long.ensures,
    )
