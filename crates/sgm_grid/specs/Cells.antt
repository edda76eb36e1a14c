-- The ranges of a grid and of a height, and what contracts see of a grid.
use Rattle.std.specs.Prelude.{◌≡◌, ℕ, ◌+◌, ◌*◌, ◌≤◌, ℤ, pos, neg_ℤ, List, length, All, take, drop}
use Rattle.std.specs.Prelude.{slice_get, Option, None, unwrap_or}
use Rattle.std.specs.Option.{ForSome}
use Rattle.sgm_grid.specs.declared.grid_spec.GridSpec.{GridSpec}
use Rattle.sgm_base.specs.Ranges.{IsFromTo}
use Rattle.sgm_base.specs.declared.limits.TheConstants.{MAX_GRID_LINES}
use Rattle.sgm_grid.specs.declared.limits.TheConstants.{MAX_PLACE, MAX_CELL, MAX_HEIGHT}

-- the ranges of a grid
pub record IsGridSpec (spec : GridSpec) : Type 0 where
  pub west_in_range : IsFromTo (neg_ℤ MAX_PLACE) MAX_PLACE spec.west
  pub south_in_range : IsFromTo (neg_ℤ MAX_PLACE) MAX_PLACE spec.south
  pub cell_in_range : IsFromTo (pos 1) MAX_CELL spec.cell
  pub cols_in_range : (1 ≤ spec.cols) × (spec.cols ≤ MAX_GRID_LINES)
  pub rows_in_range : (1 ≤ spec.rows) × (spec.rows ≤ MAX_GRID_LINES)

-- the range of a height
abbrev pub IsHeight : ℤ → Type 0
IsHeight z = IsFromTo (neg_ℤ MAX_HEIGHT) MAX_HEIGHT z

-- a grid: its ranges, and the height of each of its cells or none, row by row from the north
pub record Cells : Type 0 where
  pub spec : GridSpec
  pub heights : List (Option ℤ)

-- what every grid keeps
pub record IsCells (grid : Cells) : Type 0 where
  pub ranges : IsGridSpec grid.spec
  pub full : length grid.heights ≡ grid.spec.cols * grid.spec.rows
  pub heights_in_range : All (λ height. ForSome height IsHeight) grid.heights

-- the grid of those ranges with these heights
abbrev pub cells_of : GridSpec → List (Option ℤ) → Cells
cells_of spec heights = record { spec = spec; heights = heights }

-- the place of a cell in the list
abbrev pub cell_index : GridSpec → ℕ → ℕ → ℕ
cell_index spec col row = row * spec.cols + col

-- the height of the cell in that column and in that row from the north, or none
abbrev pub height_at : Cells → ℕ → ℕ → Option ℤ
height_at grid col row = unwrap_or (slice_get grid.heights (cell_index grid.spec col row)) None

-- the heights of that row from the north
abbrev pub row_of : Cells → ℕ → List (Option ℤ)
row_of grid row = take grid.spec.cols (drop (row * grid.spec.cols) grid.heights)
