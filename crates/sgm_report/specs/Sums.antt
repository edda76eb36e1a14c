-- What the code holds of some cells while it goes over a region.
use Rattle.std.specs.Prelude.{ℕ, ◌+◌, ◌*◌, ◌≤◌, ℤ, List, Option, Some, None, count_by, sum_by}
use Rattle.std.specs.Int.{int_min}
use Rattle.sgm_grid.specs.Points.{greatest}
use Rattle.sgm_report.specs.Tallies.{above_base, below_base, has_height, heights_in, is_bridged}
use Rattle.sgm_report.specs.Tallies.{is_empty, least}
use Rattle.sgm_report.specs.declared.volumes.RegionCell.{RegionCell}
use Rattle.sgm_report.specs.declared.volumes.Sums.{Sums}

-- the sums of some cells
abbrev pub sums_over : List RegionCell → Sums
sums_over cells = record {
  cells = count_by has_height cells;
  bridged = count_by is_bridged cells;
  empty = count_by is_empty cells;
  above = sum_by (λ cell. above_base cell.base cell.height) cells;
  below = sum_by (λ cell. below_base cell.base cell.height) cells;
  lowest = least (heights_in cells);
  highest = greatest (heights_in cells);
}

-- the lesser of what was held and a height, or the height where nothing was
abbrev pub lower : Option ℤ → ℤ → ℤ
lower None height = height
lower (Some held) height = int_min held height

-- the most cells of a grid
abbrev pub most_cells : ℕ
most_cells = 16777216

-- how far a height and a base are apart at most
abbrev pub most_apart : ℕ
most_apart = 4000000000

-- sums that stay in their bounds with that many cells more
pub record HasRoom (sums : Sums) (count : ℕ) : Type 0 where
  pub counts : sums.cells + sums.empty + count ≤ most_cells
  pub bridges : sums.bridged ≤ sums.cells
  pub heights_above : sums.above + count * most_apart ≤ most_cells * most_apart
  pub heights_below : sums.below + count * most_apart ≤ most_cells * most_apart
