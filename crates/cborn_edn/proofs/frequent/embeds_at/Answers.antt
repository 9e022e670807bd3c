use Rattle.std.specs.Prelude.{◌≡◌, ◌+◌, ◌∷◌}
use Rattle.cborn_edn.proofs.Common.{◌∙◌, [], refl, ap, arith, drop, eqb-true, EmbedOpen}
use Rattle.cborn_lex.specs.Good as good
use Rattle.cborn_edn.proofs.Reader.CommonTokens.{begins_here, token_here}
use Rattle.cborn_edn.proofs.frequent.embeds_at.Goals as goal

pub returns-then-second-text-clause-token : goal.returns-then-second-text-clause-token
returns-then-second-text-clause-token c e profile =
    let text = c.args.text.now in
    let at = c.args.at in
    let two : at + 1 + 1 ≡ at + 2 = omega arith in
    let whole : drop at text ≡ 60 ∷ 60 ∷ drop (at + 2) text = begins_here text at 60 c.requires.inside c.requires.less ∙ ap (λ y. 60 ∷ y) (begins_here text (at + 1) 60 (omega (arith, c.if-second-text.true)) (eqb-true _ 60 e) ∙ ap (λ n. 60 ∷ drop n text) two) in
    token_here profile text (60 ∷ 60 ∷ []) (drop (at + 2) text) at (at + 2) EmbedOpen whole refl (good.embed_open (drop (at + 2) text))
