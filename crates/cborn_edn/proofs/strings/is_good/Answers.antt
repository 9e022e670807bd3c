use Rattle.cborn_edn.proofs.Common.{IsUtf8-from_ascii}
use Rattle.cborn_edn.proofs.Shown.Lowests.{utf8_is}
use Rattle.cborn_edn.proofs.strings.is_good.Goals as goal

pub returns-then-is_ascii : goal.returns-then-is_ascii
returns-then-is_ascii c = rw c.in-OfText.is (utf8_is c.is_ascii.result c.args.content.now (λ e. IsUtf8-from_ascii c.args.content.now c.if-is_ascii.ensures.cases) (λ u. c.if-is_ascii.true))

pub returns-else-is_ascii : goal.returns-else-is_ascii
returns-else-is_ascii c = rw c.in-OfText.is (utf8_is c.is_utf8.result c.args.content.now c.is_utf8.ensures.0 c.is_utf8.ensures.1)
