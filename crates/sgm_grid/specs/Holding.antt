-- What is held of points, of either kind.
use Rattle.sgm_grid.specs.declared.bins.Held.{Held}
use Rattle.sgm_grid.specs.declared.bins.Held.TheVariants.{Highest, Mean}
use Rattle.sgm_grid.specs.Binning.{Binned, greatest_heights, height_sums}

abbrev pub binned : Held → Binned
binned (Highest grid) = greatest_heights grid
binned (Mean sums) = height_sums sums
