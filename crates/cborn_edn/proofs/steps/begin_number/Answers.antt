use Rattle.cborn_edn.proofs.Common.{refl, true, wants_number, has_number}
use Rattle.cborn_lex.specs.declared.classes.Kind.TheVariants as kinds
use Rattle.cborn_edn.proofs.Reader.Turning.{turn}
use Rattle.cborn_edn.proofs.steps.begin_number.Goals as goal

pub returns-in_ok-put_simple-in-Number : goal.returns-in_ok-put_simple-in-Number
returns-in_ok-put_simple-in-Number g c = λ st s.
    turn _ c.args.token.kind (kinds.Number c.in-Number.negative c.in-Number.mark) c.args.number c.args.token.start c.args.here.now c.put_simple.new.here c.args.writer.now c.put_simple.new.writer true (wants_number st s) c.in-Number.is
    (λ x a p e. (has_number st s a c.in-Number.negative c.args.number c.in-Number.mark, refl, c.in_ok-put_simple-in-Number.ensures st s a p e))
