-- Into which cell a point falls, and what a list of points makes of a grid.
use Rattle.std.specs.Prelude.{ℕ, ◌-◌, ◌*◌, ◌==◌, ◌&&◌, Bool, false, nat_lt, ℤ, pos, negsuc, ◌-ℤ◌}
use Rattle.std.specs.Prelude.{List, [], ◌∷◌, fold, replicate, slice_get, slice_set, Option, Some}
use Rattle.std.specs.Prelude.{None, unwrap_or, if◌then◌else◌}
use Rattle.std.specs.Int.{int_div_euclid, int_max}
use Rattle.sgm_base.specs.declared.point.Point.{Point}
use Rattle.sgm_grid.specs.declared.grid_spec.GridSpec.{GridSpec}
use Rattle.sgm_grid.specs.Cells.{Cells, cells_of, cell_index}

-- that number, where it is from 0 to below the count
abbrev pub index_below : ℕ → ℤ → Option ℕ
index_below count (pos n) = if nat_lt n count then Some n else None
index_below count (negsuc n) = None

-- how many whole cells lie west of a point, or none where it is outside the columns
abbrev pub col_of : GridSpec → Point → Option ℕ
col_of spec p = index_below spec.cols (int_div_euclid (p.x -ℤ spec.west) spec.cell)

-- how many whole cells lie south of a point, or none where it is outside the rows
abbrev pub row_from_south : GridSpec → Point → Option ℕ
row_from_south spec p = index_below spec.rows (int_div_euclid (p.y -ℤ spec.south) spec.cell)

-- the column, and the row from the north, of those counted from the south-west
abbrev pub from_north : GridSpec → Option ℕ → Option ℕ → Option (ℕ × ℕ)
from_north spec (Some col) (Some south) = Some (col, spec.rows - 1 - south)
from_north spec _ _ = None

-- the column, and the row from the north, of the cell into which a point falls, or none where it is
-- outside
abbrev pub cell_of : GridSpec → Point → Option (ℕ × ℕ)
cell_of spec p = from_north spec (col_of spec p) (row_from_south spec p)

abbrev pub is_that_cell : Option (ℕ × ℕ) → ℕ → ℕ → Bool
is_that_cell None col row = false
is_that_cell (Some cell) col row = (cell.0 == col) && (cell.1 == row)

-- whether a point falls into the cell in that column and in that row from the north
abbrev pub falls_into : GridSpec → ℕ → ℕ → Point → Bool
falls_into spec col row p = is_that_cell (cell_of spec p) col row

-- the greatest of some heights, or none where there are none
abbrev pub greatest : List ℤ → Option ℤ
greatest [] = None
greatest (h ∷ more) = Some (fold int_max h more)

-- a grid without a height
abbrev pub empty_grid : GridSpec → Cells
empty_grid spec = cells_of spec (replicate (spec.cols * spec.rows) None)

-- the greater of what a cell held and a height, or the height where it held none
abbrev pub higher : Option ℤ → ℤ → ℤ
higher None h = h
higher (Some held) h = int_max held h

-- the grid whose cell at that place in the list keeps the higher
abbrev pub raised_at : Cells → ℕ → ℤ → Cells
raised_at grid at h =
    cells_of grid.spec (slice_set grid.heights at
    (Some (higher (unwrap_or (slice_get grid.heights at) None) h)))

-- the grid whose cell there keeps the higher
abbrev pub raised : Cells → Option (ℕ × ℕ) → ℤ → Cells
raised grid None h = grid
raised grid (Some cell) h = raised_at grid (cell_index grid.spec cell.0 cell.1) h

-- the grid after a point: its cell keeps the higher, every other cell stays
abbrev pub added : Cells → Point → Cells
added grid p = raised grid (cell_of grid.spec p) p.h
