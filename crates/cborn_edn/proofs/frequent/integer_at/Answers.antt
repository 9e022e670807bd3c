use Rattle.std.specs.Prelude.{◌≡◌, ◌+◌, ◌-◌, if◌then◌else◌}
use Rattle.cborn_edn.proofs.Common.{◌∙◌, sym, subst, eqb, List, ℕ, Bool, true, false, take_rest, length, take, drop, arith, refl, Absent, Number, TagOpen, begins, IsTokenAt}
use Rattle.cborn_edn.proofs.Reader.Items.{before_comma, number_here, tag_here}
use Rattle.cborn_edn.proofs.frequent.integer_at.Goals as goal

pub returns-then-is_tag-clause-token : goal.returns-then-is_tag-clause-token
returns-then-is_tag-clause-token c profile =
    let n = c.in_ok-number in
    let found = c.mark_at-found in
    let mark = c.in_ok-mark.mark in
    let text = c.args.text.now in
    let paren = subst (λ (y : List ℕ). begins (λ d. eqb d 40) y ≡ true) (take_rest _ found.result.1) (sym c.begins_with-is_tag.ensures ∙ c.if-is_tag.true) in
    subst (λ (b : Bool). IsTokenAt profile text c.args.at (c.args.at + n.len + found.result.1 + 1) (if b then TagOpen n.number mark else Number false n.number mark)) (sym c.if-is_tag.true)
    (tag_here profile text _ _ c.args.at n.len found.result.1 n.number mark (take_rest text c.args.at) (take_rest _ n.len) n.ensures.within found.ensures.within (n.ensures.value false) n.ensures.run found.ensures.run (sym found.ensures.mark ∙ c.in_ok-mark.was) paren)

pub returns-else-is_tag-clause-token : goal.returns-else-is_tag-clause-token
returns-else-is_tag-clause-token c profile =
    let n = c.in_ok-number in
    let found = c.mark_at-found in
    let mark = c.in_ok-mark.mark in
    let text = c.args.text.now in
    let none = subst (λ (y : List ℕ). begins (λ d. eqb d 40) y ≡ false) (take_rest _ found.result.1) (sym c.begins_with-is_tag.ensures ∙ c.if-is_tag.false) in
    subst (λ (b : Bool). IsTokenAt profile text c.args.at (c.args.at + n.len + found.result.1) (if b then TagOpen n.number mark else Number false n.number mark)) (sym c.if-is_tag.false)
    (number_here profile text _ _ c.args.at n.len found.result.1 n.number mark (take_rest text c.args.at) (take_rest _ n.len) n.ensures.within found.ensures.within (n.ensures.value false) n.ensures.run found.ensures.run (sym found.ensures.mark ∙ c.in_ok-mark.was) none)

pub returns-then-begins_with-clause-token : goal.returns-then-begins_with-clause-token
returns-then-begins_with-clause-token c profile =
    let n = c.in_ok-number in
    let text = c.args.text.now in
    let tail = take (length text - c.args.at) (drop c.args.at text) in
    let e = before_comma (take (length tail - n.len) (drop n.len tail)) (sym c.begins_with.ensures ∙ c.if-begins_with.true) in
    let stop : c.args.at + n.len + 0 ≡ c.args.at + n.len = omega arith in
    subst (λ (k : ℕ). IsTokenAt profile text c.args.at k (Number false n.number Absent)) stop
    (number_here profile text _ _ c.args.at n.len 0 n.number Absent (take_rest text c.args.at) (take_rest _ n.len) n.ensures.within (omega arith) (n.ensures.value false) n.ensures.run e.0 refl e.1)
