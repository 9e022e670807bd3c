use Rattle.cborn_engine.proofs.Common.{sym, subst, Err, CompareCountFault, ComparesCount}
use Rattle.cborn_engine.proofs.Comparison.Compared.{its_own}
use Rattle.cborn_engine.proofs.CountAnswers.Compared.{first_not_read, second_not_read, both_read}
use Rattle.cborn_engine.proofs.counted_streams.compare_streams.Goals as goal

pub returns-in-Err-clause-compares : goal.returns-in-Err-clause-compares
returns-in-Err-clause-compares g c =
    let before2 = g.Q.Source.remaining c.args.second.now in
    subst (λ (w : CompareCountFault). ComparesCount c.args.count c.args.kind_a c.args.kind_b c.args.limit (g.R.Source.remaining c.args.first.now) (g.R.Source.remaining c.read_counted.new.reader) before2 before2 (Err w)) (sym c.of_first.ensures)
    (first_not_read c.args.count g.O.KeyOrder.order g.met.O.KeyOrder.laws c.args.kind_a c.args.kind_b c.args.limit (g.R.Source.remaining c.args.first.now) (g.R.Source.remaining c.read_counted.new.reader) before2 before2 c.in-Err.why c.in-Err.ensures.reads)

pub returns-in-Err-read_counted-clause-compares : goal.returns-in-Err-read_counted-clause-compares
returns-in-Err-read_counted-clause-compares g c =
    let before2 = g.Q.Source.remaining c.args.second.now in
    let after2 = g.Q.Source.remaining c.read_counted-2.new.reader in
    subst (λ (w : CompareCountFault). ComparesCount c.args.count c.args.kind_a c.args.kind_b c.args.limit (g.R.Source.remaining c.args.first.now) (g.R.Source.remaining c.read_counted.new.reader) before2 after2 (Err w)) (sym c.of_second.ensures)
    (second_not_read c.args.count g.O.KeyOrder.order g.met.O.KeyOrder.laws c.args.kind_a c.args.kind_b c.args.limit (g.R.Source.remaining c.args.first.now) (g.R.Source.remaining c.read_counted.new.reader) before2 after2 c.in-Ok.bytes c.in-Err-read_counted.why c.in-Ok.ensures.reads c.in-Err-read_counted.ensures.reads)

pub difference-requires : goal.difference-requires
difference-requires g c =
    let a = c.in-Ok.ensures.reads in
    let b = c.in-Ok-read_counted.ensures.reads in
    let own = its_own g.O.KeyOrder.order g.met.O.KeyOrder.laws in
    record {
      ours = own c.args.kind_a c.args.limit a.input c.in-Ok.bytes.items c.deref.result.now a.answer.0.0 a.answer.0.1 c.deref.ensures.value;
      theirs = own c.args.kind_b c.args.limit b.input c.in-Ok-read_counted.bytes.items c.deref-2.result.now b.answer.0.0 b.answer.0.1 c.deref-2.ensures.value;
    }

pub returns-clause-compares : goal.returns-clause-compares
returns-clause-compares g c =
    both_read c.args.count g.O.KeyOrder.order g.met.O.KeyOrder.laws c.args.kind_a c.args.kind_b c.args.limit (g.R.Source.remaining c.args.first.now) (g.R.Source.remaining c.read_counted.new.reader) (g.Q.Source.remaining c.args.second.now) (g.Q.Source.remaining c.read_counted-2.new.reader)
    c.in-Ok.bytes c.in-Ok-read_counted.bytes c.deref.result.now c.deref-2.result.now c.in_ok-difference.field-0 c.in-Ok.ensures.reads c.in-Ok-read_counted.ensures.reads c.deref.ensures.value c.deref-2.ensures.value c.in_ok-difference.ensures
