use Rattle.sgm_grid.proofs.Placing.{points_placed}
use Rattle.sgm_grid.proofs.laws.points_are_placed.Goals as goal

pub returns : goal.returns
returns c = λ bins points. points_placed points bins
