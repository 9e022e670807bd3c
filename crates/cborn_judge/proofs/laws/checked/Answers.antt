use Rattle.cborn_judge.proofs.Encoded.Checking.{check_sound, check_whole, check_sequence_sound, check_sequence_whole}
use Rattle.cborn_judge.proofs.laws.checked.Goals as goal

pub returns-clause-one : goal.returns-clause-one
returns-clause-one g c t a f o m = (
  (λ h. check_sound g.O.KeyOrder.order g.met.O.KeyOrder.laws t a f m h),
  (λ d p r x. check_whole g.O.KeyOrder.order g.met.O.KeyOrder.laws t a f o m d p r x),
)

pub returns-clause-all : goal.returns-clause-all
returns-clause-all g c ts vs f o m = (
  (λ h. check_sequence_sound g.O.KeyOrder.order g.met.O.KeyOrder.laws ts vs f m h),
  (λ d p r x. check_sequence_whole g.O.KeyOrder.order g.met.O.KeyOrder.laws ts vs f o m d p r x),
)
