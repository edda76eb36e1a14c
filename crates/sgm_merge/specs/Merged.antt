-- Many grids of heights as one.
use Rattle.std.specs.Prelude.{ℕ, ◌-◌, ℤ, pos, ◌+ℤ◌, ◌*ℤ◌, List, filter_map, Option, option_and_then}
use Rattle.sgm_base.specs.Values.{row_by_row}
use Rattle.sgm_base.specs.declared.point.Point.{Point}
use Rattle.sgm_grid.specs.declared.grid_spec.GridSpec.{GridSpec}
use Rattle.sgm_grid.specs.declared.keep.Keep.{Keep}
use Rattle.sgm_grid.specs.Cells.{Cells, cells_of, height_at}
use Rattle.sgm_grid.specs.Keeping.{kept}
use Rattle.sgm_grid.specs.Points.{cell_of}

-- the south-west corner of the cell in that column and in that row from the north
abbrev pub corner : GridSpec → ℕ → ℕ → Point
corner spec col row = record {
  x = spec.west +ℤ (pos col *ℤ spec.cell);
  y = spec.south +ℤ (pos (spec.rows - 1 - row) *ℤ spec.cell);
  h = pos 0;
}

-- the height of the cell of a grid into which a point falls, or none where it is outside
abbrev pub height_where : Cells → Point → Option ℤ
height_where grid p = option_and_then (λ cell. height_at grid cell.0 cell.1) (cell_of grid.spec p)

-- the height that a grid has at a cell of another, or none
abbrev pub height_over : GridSpec → Cells → ℕ → ℕ → Option ℤ
height_over spec entry col row = height_where entry (corner spec col row)

-- the heights that grids have at a cell of another, in their order
abbrev pub heights_over : GridSpec → List Cells → ℕ → ℕ → List ℤ
heights_over spec entries col row = filter_map (λ entry. height_over spec entry col row) entries

-- the grid in which each cell holds what it keeps of the heights that the entries have there, or is
-- empty where none has one
unfoldable pub merged : Keep → GridSpec → List Cells → Cells
merged keep spec entries =
    cells_of spec (row_by_row spec.cols spec.rows
    (λ col row. kept keep (heights_over spec entries col row)))

-- a grid's heights over the cells of another: what lies outside is left out
unfoldable pub cut_to : GridSpec → Cells → Cells
cut_to spec entry = cells_of spec (row_by_row spec.cols spec.rows (height_over spec entry))
