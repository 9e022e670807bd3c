use Rattle.std.specs.Prelude.{◌+◌, ◌++◌}
use Rattle.cborn_lex.proofs.Common.{refl, take, rules, ◌∙◌, ap₂, take-append-add, ap, take-take}
use Rattle.cborn_lex.proofs.letters.push_block.Goals as goal

pub returns-clause-written : goal.returns-clause-written
returns-clause-written c =
    c.truncate.ensures.items ∙ ap₂ (λ m z. take (m + c.args.n) z) (search rules) (search rules) ∙ take-append-add c.args.out.now.items (take 16 c.args.tail.now) c.args.n ∙ ap (λ z. c.args.out.now.items ++ z) (ap (take c.args.n) refl ∙ take-take c.args.n 16 c.args.tail.now c.requires.few)
