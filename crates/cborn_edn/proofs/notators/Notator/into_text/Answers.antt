use Rattle.cborn_edn.proofs.Notating.{finished}
use Rattle.cborn_edn.proofs.notators.Notator.into_text.Goals as goal

pub returns : goal.returns
returns c = λ ts fits held. finished c.args.self c.push_ending.new.out.items ts c.requires c.in_ok-push_ending.ensures fits held
