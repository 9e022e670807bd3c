use Rattle.std.specs.Prelude.{◌^◌, ◌<◌}
use Rattle.cborn_edn.proofs.Common.{subst, arith, start}
use Rattle.cborn_edn.specs.declared.states.TheConstants as constants
use Rattle.cborn_edn.proofs.Lemmas.{first_reads, begins}
use Rattle.cborn_edn.proofs.passes.visit_text.Goals as goal

pub read_tokens-requires : goal.read_tokens-requires
read_tokens-requires g c = record {
  utf8 = c.utf8.text;
  small = subst (λ n. n < 2 ^ 63) c.bounded_len-len.ensures.len c.bounded_len-len.ensures.small;
  inside = omega arith;
  state = start;
  reached = begins c.args.profile c.get.result c.args.text.now;
  shows = first_reads constants.Here.FIRST c.new-writer.result c.new-writer.ensures.spellers c.requires c.new-writer.ensures.shows;
}
