use Rattle.sgm_merge.proofs.Corners.{own_cells_stay}
use Rattle.sgm_merge.proofs.laws.own_cells_stay.Goals as goal

pub returns : goal.returns
returns c = own_cells_stay
