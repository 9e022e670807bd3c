use Rattle.cborn_lex.proofs.Runs.{marked_lanes}
use Rattle.cborn_lex.proofs.letters.special_letters.Goals as goal

pub returns : goal.returns
returns g c = marked_lanes g.row.N c.args.quote c.args.letters c.requires c.fits-letters.0
