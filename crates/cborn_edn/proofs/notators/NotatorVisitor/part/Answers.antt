use Rattle.cborn_edn.proofs.Common.{refl, on_ok}
use Rattle.cborn_edn.proofs.Notating.{more_held}
use Rattle.cborn_edn.proofs.notators.NotatorVisitor.part.Goals as goal

pub returns-in-Some-clause-held : goal.returns-in-Some-clause-held
returns-in-Some-clause-held c =
    on_ok c.push_content.result (λ out f p k l n x held. more_held c.args.self.now _ f p k l n x c.args.bytes.now c.in-Some.string refl refl refl refl refl c.in-Some.is out held) c.push_content.ensures
