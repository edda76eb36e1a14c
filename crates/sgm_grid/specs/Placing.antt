-- Points as places in a grid's list of cells, and what is held after them.
use Rattle.std.specs.Prelude.{ℕ, ◌*◌, ◌<◌, ℤ, Option, option_map}
use Rattle.sgm_base.specs.declared.point.Point.{Point}
use Rattle.sgm_grid.specs.declared.grid_spec.GridSpec.{GridSpec}
use Rattle.sgm_grid.specs.declared.placed.Placed.{Placed}
use Rattle.sgm_grid.specs.Cells.{IsHeight, cell_index}
use Rattle.sgm_grid.specs.Points.{cell_of, raised_at}
use Rattle.sgm_grid.specs.Binning.{Binned, greatest_heights, height_sums, summed_at}

-- a height in the cell in that column and in that row from the north
abbrev pub placed_at : GridSpec → ℤ → ℕ × ℕ → Placed
placed_at spec h cell = record { place = cell_index spec cell.0 cell.1; height = h }

-- where a point falls, and its height, or none where it is outside
abbrev pub placed : GridSpec → Point → Option Placed
placed spec p = option_map (placed_at spec p.h) (cell_of spec p)

-- the range of what falls into a grid
abbrev pub IsPlaced : GridSpec → Placed → Type 0
IsPlaced spec fallen = (fallen.place < spec.cols * spec.rows) × IsHeight fallen.height

-- the grid of what is held
abbrev pub spec_in : Binned → GridSpec
spec_in (greatest_heights grid) = grid.spec
spec_in (height_sums held) = held.spec

-- what is held after a height more in the cell at its place
abbrev pub with_placed : Binned → Placed → Binned
with_placed (greatest_heights grid) fallen =
    greatest_heights (raised_at grid fallen.place fallen.height)
with_placed (height_sums held) fallen = height_sums (summed_at held fallen.place fallen.height)
