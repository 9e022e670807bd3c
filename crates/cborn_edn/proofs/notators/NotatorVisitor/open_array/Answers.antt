use Rattle.cborn_edn.proofs.Common.{◌∙◌, refl, an_array, on_ok}
use Rattle.cborn_edn.proofs.Notating.{opened_held}
use Rattle.cborn_edn.proofs.notators.NotatorVisitor.open_array.Goals as goal

pub returns-clause-held : goal.returns-clause-held
returns-clause-held c =
    opened_held c.open.result c.args.self.now c.open.new.self (an_array c.args._place c.args.size c.args.count) (on_ok c.open.result (λ e. e ∙ c.first_in.ensures.array c.args._place refl) c.open.ensures.next) c.open.ensures.around c.open.ensures.bad c.open.ensures.out c.open.ensures.lates
