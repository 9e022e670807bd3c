use Rattle.cborn_lex.proofs.Common.{refl, false, arith, ap, ◌∙◌, list_all, UnclosedString, Bytes, is_not, Bad, marked, IsEncoded, refusal, inr, take, take_all, length, drop_all}
use Rattle.cborn_lex.proofs.Sliced.Words.{string_ok, string_bad}
use Rattle.cborn_lex.proofs.TwoParts.{string_appended}
use Rattle.cborn_lex.proofs.encoded.in_encoding.Goals as goal

pub returns-in_default : goal.returns-in_default
returns-in_default c = (omega arith, (Bad UnclosedString, (inr (ap (list_all (is_not 39)) (take_all (length c.args.tail.now) c.args.tail.now (omega arith)) ∙ c.in_default.ensures, drop_all (length c.args.tail.now) c.args.tail.now (omega arith), refl)), λ n. refl))

pub returns-then-branch : goal.returns-then-branch
returns-then-branch c =
    let made = c.in_ok-push_decoded.ensures.written c.if-branch.true in
    let a = marked (Bytes false made.0) c.mark_at-mark.result.0 in
    let s =
    string_ok (list_all (is_not 39)) 39 c.in-Some.i c.mark_at-mark.result.1 c.args.tail.now (take c.in-Some.i c.args.tail.now) c.rest_of.result.now c.in-Some.ensures.1 c.in-Some.ensures.0 c.in-Some.ensures.2 refl c.rest_of.ensures c.mark_at-mark.ensures.within c.mark_at-mark.ensures.run
    (list_all (is_not 39)) (IsEncoded c.args.encoding) (refusal c.args.encoding) (Bytes false) a made.0 c.mark_at-mark.result.0 made.1 refl c.mark_at-mark.ensures.mark in
    (s.0, (a, s.1, λ n. string_appended c.bytes_front.result n made.0 c.args.out.now.items c.push_decoded.new.out.items (Bytes false made.0) c.mark_at-mark.result.0 (λ m. refl) (c.bytes_front.ensures n made.0) made.2))

pub returns-in-Hex : goal.returns-in-Hex
returns-in-Hex c =
    let s =
    string_bad (list_all (is_not 39)) 39 c.in-Some.i c.mark_at-mark.result.1 c.args.tail.now (take c.in-Some.i c.args.tail.now) c.rest_of.result.now c.in-Some.ensures.1 c.in-Some.ensures.0 c.in-Some.ensures.2 refl c.rest_of.ensures c.mark_at-mark.ensures.within c.mark_at-mark.ensures.run
    (list_all (is_not 39)) (IsEncoded c.args.encoding) (refusal c.args.encoding) (Bytes false) (Bad (refusal c.args.encoding)) (c.in_ok-push_decoded.ensures.none c.if-branch.false) refl in
    (s.0, (Bad (refusal c.args.encoding), s.1, λ n. ap (λ e. Bad (refusal e)) c.in-Hex.is))

pub returns-in-Base64 : goal.returns-in-Base64
returns-in-Base64 c =
    let s =
    string_bad (list_all (is_not 39)) 39 c.in-Some.i c.mark_at-mark.result.1 c.args.tail.now (take c.in-Some.i c.args.tail.now) c.rest_of.result.now c.in-Some.ensures.1 c.in-Some.ensures.0 c.in-Some.ensures.2 refl c.rest_of.ensures c.mark_at-mark.ensures.within c.mark_at-mark.ensures.run
    (list_all (is_not 39)) (IsEncoded c.args.encoding) (refusal c.args.encoding) (Bytes false) (Bad (refusal c.args.encoding)) (c.in_ok-push_decoded.ensures.none c.if-branch.false) refl in
    (s.0, (Bad (refusal c.args.encoding), s.1, λ n. ap (λ e. Bad (refusal e)) c.in-Base64.is))
