use Rattle.sgm_grid.proofs.Kept.{points_are_kept}
use Rattle.sgm_grid.proofs.laws.points_are_kept.Goals as goal

pub returns : goal.returns
returns c = points_are_kept
