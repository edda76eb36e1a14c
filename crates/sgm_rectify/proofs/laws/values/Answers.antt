use Rattle.sgm_rectify.proofs.Bounds.{values_low}
use Rattle.sgm_rectify.proofs.laws.values.Goals as goal

pub returns : goal.returns
returns c = values_low
