use Rattle.sgm_merge.proofs.Corners.{cells_meet}
use Rattle.sgm_merge.proofs.laws.cells_meet.Goals as goal

pub returns : goal.returns
returns c = cells_meet
