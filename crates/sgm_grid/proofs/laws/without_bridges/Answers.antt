use Rattle.sgm_grid.proofs.BridgeLaws.{without_bridges}
use Rattle.sgm_grid.proofs.laws.without_bridges.Goals as goal

pub returns : goal.returns
returns c = without_bridges
