-- The ranges of the sums of heights.
use Rattle.std.specs.Prelude.{◌≡◌, ◌*◌, length}
use Rattle.sgm_base.specs.Ranges.{Within}
use Rattle.sgm_grid.specs.Binning.{CellSums, Sum}
use Rattle.sgm_grid.specs.Cells.{IsGridSpec}

-- the range of the sum of so many heights
abbrev pub IsSum : Sum → Type 0
IsSum sum = Within (sum.count * 2000000000) sum.total

-- what the sums of every grid keep
pub record IsCellSums (held : CellSums) : Type 0 where
  pub ranges : IsGridSpec held.spec
  pub full : length held.sums ≡ held.spec.cols * held.spec.rows
