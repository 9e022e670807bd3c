use Rattle.std.specs.Prelude.{◌≡◌, ◌+◌, ◌&&◌}
use mir.Val.{bool_byte}
use Rattle.cborn_lex.proofs.Common.{Bool, not, ap, arith, cond, ℕ, true, false, sym, ◌∙◌, subst, refl, [], take, drop, Front, mark_of, integer, number_front, ReadsNumber, front_view}
use Rattle.cborn_lex.proofs.Sliced.Pieces.{number_made}
use Rattle.cborn_lex.proofs.integers.number_at.Goals as goal

with_tag : (b : Bool) (k : ℕ) → k + bool_byte b ≡ cond b (k + 1) k
with_tag true k = refl
with_tag false k = omega arith

pub returns : goal.returns
returns c =
    let tagged : Bool = not c.args.negative && c.begins_with.result in
    let n = c.integer_at-found.result.1 in
    let made =
    number_made c.args.negative tagged [] c.args.body.now c.rest_of-after.result.now c.rest_of.result.now (take n c.args.body.now) n c.mark_at-mark.result.1 (n + c.mark_at-mark.result.1 + bool_byte tagged)
    (record {
      after_is = c.rest_of-after.ensures;
      more_is = c.rest_of.ensures;
      text_is = refl;
      n_fits = c.integer_at-found.ensures.within;
      m_fits = c.mark_at-mark.ensures.within;
      run = c.integer_at-found.ensures.run;
      indicator = c.mark_at-mark.ensures.run;
      tagged_is = ap (λ b. not c.args.negative && b) c.begins_with.ensures;
      k_is = with_tag tagged (n + c.mark_at-mark.result.1);
    }) in
    let front : front_view c.number_front-front.new.number [] c.number_front-front.result ≡ number_front c.args.negative tagged (mark_of (take c.mark_at-mark.result.1 c.rest_of-after.result.now)) (integer c.args.negative (take n c.args.body.now)) = c.number_front-front.ensures ∙ rw (c.mark_at-mark.ensures.mark, c.integer_at-found.ensures.value) refl in
    record { within = made.0; reads = subst (λ (a : Front). ReadsNumber c.args.negative [] (take (n + c.mark_at-mark.result.1 + bool_byte tagged) c.args.body.now) (drop (n + c.mark_at-mark.result.1 + bool_byte tagged) c.args.body.now) a) (sym front) made.1 }
