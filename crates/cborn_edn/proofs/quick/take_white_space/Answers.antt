use Rattle.cborn_edn.proofs.Common.{subst, ℕ, List, [], arith, TokensBetween}
use Rattle.cborn_edn.proofs.Lemmas.{skipped}
use Rattle.cborn_edn.proofs.quick.take_white_space.Goals as goal

pub returns : goal.returns
returns g c =
    let s = skipped c.requires.0 c.in-Some.stop (subst (λ (x : List ℕ). TokensBetween c.args.source.profile x c.args.here.now.at c.in-Some.stop []) c.as_bytes-bytes.ensures.value c.in-Some.ensures.white_space) in
    (s.0, s.1, λ e. grind arith)
