use Rattle.std.proofs.Common.{◌≡◌, take, map}
use Rattle.std.specs.Prelude.{All}
use Rattle.std.specs.Option.{ForSome}
use Rattle.sgm_grid.specs.Binning.{mean_told}
use Rattle.sgm_grid.specs.Cells.{IsHeight}
use Rattle.sgm_grid.proofs.bins.Sums.grid.Given as goal

abbrev pub invariant-loop-sum : goal.invariant-loop-sum
invariant-loop-sum l = (l.heights.items ≡ map mean_told (take l.sum-index l.sum-items)) × All (λ height. ForSome height IsHeight) l.heights.items
