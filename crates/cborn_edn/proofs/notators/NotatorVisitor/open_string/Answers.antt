use Rattle.cborn_edn.proofs.Common.{refl, arith}
use Rattle.cborn_edn.proofs.Notating.{string_open}
use Rattle.cborn_edn.proofs.notators.NotatorVisitor.open_string.Goals as goal

pub returns-clause-held : goal.returns-clause-held
returns-clause-held c = λ f proper takes held.
    string_open c.args.self.now _ f c.args.place c.args.kind c.args.width c.args.len c.len-start.result c.begin.new.self.out.items c.begin.ensures.next c.begin.ensures.around c.in_ok-begin.ensures.lates c.begin.ensures.bad refl c.in_ok-begin.ensures.out c.in_ok-push_quote.ensures (omega (arith, c.len-start.ensures, c.push_quote.new.out.ok.0)) held
