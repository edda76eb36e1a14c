-- What is counted and added up over the cells of a region.
use Rattle.std.specs.Prelude.{◌≡◌, ℕ, ◌*◌, ℤ, pos, ◌-ℤ◌, ◌≤ℤ◌, All, Contains, unsigned_abs, Bool}
use Rattle.std.specs.Prelude.{not, ◌&&◌, List, [], ◌∷◌, filter, fold, map, flat_map, filter_map}
use Rattle.std.specs.Prelude.{count_by, sum_by, is_some, is_none, Option, Some, None}
use Rattle.std.specs.Int.{int_max, int_min}
use Rattle.std.specs.List.{range_with_len}
use Rattle.sgm_grid.specs.Cells.{Cells, height_at}
use Rattle.sgm_grid.specs.Points.{greatest}
use Rattle.sgm_report.specs.Areas.{Area, lies_inside}
use Rattle.sgm_report.specs.Bases.{base_at}
use Rattle.sgm_report.specs.declared.volumes.RegionCell.{RegionCell}
use Rattle.sgm_report.specs.declared.volumes.RegionTally.{RegionTally}

-- the region's columns, from west to east
abbrev pub cols_of : Area → List ℕ
cols_of area = range_with_len area.col area.cols

-- the region's rows, from north to south
abbrev pub rows_of : Area → List ℕ
rows_of area = range_with_len area.row area.rows

-- a cell of a grid and of the same one without its bridges, over a region's base
abbrev pub cell_at : Cells → Cells → Area → ℕ → ℕ → RegionCell
cell_at grid measured area row col = record {
  height = height_at grid col row;
  measured = is_some (height_at measured col row);
  base = base_at grid.spec area.base col row;
}

-- the cells of a row that lie inside
unfoldable pub row_cells : Cells → Cells → Area → ℕ → List RegionCell
row_cells grid measured area row =
    map (cell_at grid measured area row)
    (filter (λ col. lies_inside grid.spec area.outline col row) (cols_of area))

-- the region's cells
abbrev pub region_cells : Cells → Cells → Area → List RegionCell
region_cells grid measured area = flat_map (row_cells grid measured area) (rows_of area)

-- whether a cell has a height, has none, or has one by a bridge alone
abbrev pub has_height : RegionCell → Bool
has_height cell = is_some cell.height

abbrev pub is_empty : RegionCell → Bool
is_empty cell = is_none cell.height

abbrev pub is_bridged : RegionCell → Bool
is_bridged cell = is_some cell.height && not cell.measured

-- the heights of the cells that aren't empty
abbrev pub heights_in : List RegionCell → List ℤ
heights_in cells = filter_map (λ cell. cell.height) cells

-- how far a height lies above the base: 0 where it doesn't
abbrev pub above : ℤ → ℤ → ℕ
above base height = unsigned_abs (int_max (pos 0) (height -ℤ base))

-- how far a height lies below the base: 0 where it doesn't
abbrev pub below : ℤ → ℤ → ℕ
below base height = unsigned_abs (int_max (pos 0) (base -ℤ height))

-- how far a cell's height lies above its base, and how far below it: 0 where it is empty
abbrev pub above_base : ℤ → Option ℤ → ℕ
above_base base None = 0
above_base base (Some height) = above base height

abbrev pub below_base : ℤ → Option ℤ → ℕ
below_base base None = 0
below_base base (Some height) = below base height

-- the ground that a cell of that side covers
abbrev pub square : ℤ → ℕ
square side = unsigned_abs side * unsigned_abs side

-- the least of some heights, or none where there are none
abbrev pub least : List ℤ → Option ℤ
least [] = None
least (h ∷ more) = Some (fold int_min h more)

-- the tally of some cells of that side
abbrev pub tally_over : ℤ → List RegionCell → RegionTally
tally_over side cells = record {
  cells = count_by has_height cells;
  bridged = count_by is_bridged cells;
  empty = count_by is_empty cells;
  fill = sum_by (λ cell. above_base cell.base cell.height * square side) cells;
  cut = sum_by (λ cell. below_base cell.base cell.height * square side) cells;
  lowest = least (heights_in cells);
  highest = greatest (heights_in cells);
}

-- the tally of a region of a grid, beside the same grid without bridges
abbrev pub tally_of : Cells → Cells → Area → RegionTally
tally_of grid measured area = tally_over grid.spec.cell (region_cells grid measured area)

-- the least of some heights, and none exactly where there are none
abbrev pub IsLowest : List ℤ → Option ℤ → Type 0
IsLowest heights None = heights ≡ []
IsLowest heights (Some lowest) = Contains heights lowest × All (λ height. lowest ≤ℤ height) heights

-- the greatest of some heights, and none exactly where there are none
abbrev pub IsHighest : List ℤ → Option ℤ → Type 0
IsHighest heights None = heights ≡ []
IsHighest heights (Some highest) = Contains heights highest
    × All (λ height. height ≤ℤ highest) heights
