use Rattle.sgm_rectify.proofs.Corners.{positive_inside}
use Rattle.sgm_rectify.proofs.laws.denominators.Goals as goal

pub returns : goal.returns
returns c = positive_inside
