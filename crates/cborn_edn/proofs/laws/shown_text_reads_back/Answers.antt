use Rattle.cborn_edn.proofs.Lemmas.{is_text, shown_back, shown_only}
use Rattle.cborn_edn.proofs.Shown.Readable.{readable}
use Rattle.cborn_edn.proofs.Lexed.NodeTexts.{shown_tokens}
use Rattle.cborn_edn.proofs.laws.shown_text_reads_back.Goals as goal

pub returns : goal.returns
returns c = record { texts = readable; utf8 = is_text; tokens = λ p nodes text fits h. let r = shown_tokens p nodes text fits h in (r.0, r.1, r.2); back = shown_back; only = shown_only }
