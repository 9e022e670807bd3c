use Rattle.std.specs.Prelude.{◌+◌}
use Rattle.cborn_edn.proofs.Common.{[]}
use Rattle.cborn_edn.proofs.Reader.CommonTokens.{join, white_here}
use Rattle.cborn_edn.proofs.white_space.white_end.Goals as goal

pub returns-then-text-next-lt16-clause-white_space : goal.returns-then-text-next-lt16-clause-white_space
returns-then-text-next-lt16-clause-white_space c = λ profile. white_here profile c.args.text.now c.args.at c.requires.inside c.requires.white

pub returns-clause-white_space : goal.returns-clause-white_space
returns-clause-white_space c = λ profile. join profile c.args.text.now c.args.at (c.args.at + 1) (c.args.at + 1 + c.spaces_at.result) [] [] (white_here profile c.args.text.now c.args.at c.requires.inside c.requires.white) (c.spaces_at.ensures.white_space profile)
