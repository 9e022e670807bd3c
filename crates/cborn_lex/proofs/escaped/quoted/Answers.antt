use Rattle.std.specs.Prelude.{◌≡◌, ◌⊎◌}
use Rattle.cborn_lex.proofs.Common.{ℕ, List, Mark, refl, inl, inr, take, BadEscape, Bad, marked, is_content, is_unclosed, IsText, content_of, of_quoted}
use Rattle.cborn_lex.proofs.Sliced.Words.{string_ok}
use Rattle.cborn_lex.proofs.Runs.{none_yet}
use Rattle.cborn_lex.proofs.TwoParts.{string_appended}
use Rattle.cborn_lex.proofs.escaped.quoted.Goals as goal

pub bad_string-reason-requires-clause-no_backslash : goal.bad_string-reason-requires-clause-no_backslash
bad_string-reason-requires-clause-no_backslash g c = elim c.requires [ inl e ↦ rw e refl | inr e ↦ rw e refl ]

pub bad_string-reason-requires-clause-none : goal.bad_string-reason-requires-clause-none
bad_string-reason-requires-clause-none g c = let h = rw c.in_default.is at c.in_ok-i.ensures.letters in h c.args.out.now.items (none_yet g.row.QUOTE c.args.tail.now c.args.out.now.items)

pub returns-in_default : goal.returns-in_default
returns-in_default g c = (c.bad_string-reason.ensures.within, (Bad c.bad_string-reason.result.0, c.bad_string-reason.ensures.reads (of_quoted g.row.QUOTE), λ n. refl))

content_is : (q : ℕ) (x : List ℕ) (m : Mark) → (q ≡ 34) ⊎ (q ≡ 39) → content_of (of_quoted q x m) ≡ x
content_is q x m (inl e) = rw e refl
content_is q x m (inr e) = rw e refl

pub returns : goal.returns
returns g c =
    let q = g.row.QUOTE in
    let k = of_quoted q in
    let mark = c.mark_at-mark.result.0 in
    let h = rw c.in-Some.is at c.in_ok-i.ensures.letters in
    let t = h.1 c.args.out.now.items (none_yet q c.args.tail.now c.args.out.now.items) in
    let a = marked (k t.bytes) mark in
    let s =
    string_ok (is_content q) q c.in-Some.i c.mark_at-mark.result.1 c.args.tail.now (take c.in-Some.i c.args.tail.now) c.rest_of.result.now t.inside t.within t.quote refl c.rest_of.ensures c.mark_at-mark.ensures.within c.mark_at-mark.ensures.run (is_unclosed q) (IsText q) BadEscape k a t.bytes mark t.is refl
    c.mark_at-mark.ensures.mark in
    (s.0, (a, s.1, λ n. string_appended c.quoted_front.result n t.bytes c.args.out.now.items c.push_letters.new.out.items (k t.bytes) mark (λ m. content_is q t.bytes m c.requires) (c.quoted_front.ensures n t.bytes) t.added))
