-- The text of a grid of heights.
use Rattle.std.specs.Prelude.{ℕ, ℤ, List, ◌∷◌, ◌++◌, map, flat_map, codes, decimal, Option, Some}
use Rattle.std.specs.Prelude.{None}
use Rattle.std.specs.Fmt.{signed_decimal}
use Rattle.std.specs.List.{join_with_byte, range_with_len}
use Rattle.sgm_text.specs.Texts.{line}
use Rattle.sgm_grid.specs.declared.grid_spec.GridSpec.{GridSpec}
use Rattle.sgm_grid.specs.Cells.{Cells, row_of}

-- the lines with the numbers of columns and rows
abbrev pub size_text : GridSpec → List ℕ
size_text spec =
    line (codes "ncols " ++ decimal spec.cols) ++ line (codes "nrows " ++ decimal spec.rows)

-- the lines on where the grid lies
abbrev pub corner_text : GridSpec → List ℕ
corner_text spec =
    line (codes "xllcorner " ++ signed_decimal spec.west)
    ++ line (codes "yllcorner " ++ signed_decimal spec.south)

-- the lines on a cell's side and on what stands for an empty cell
abbrev pub cell_text : GridSpec → List ℕ → List ℕ
cell_text spec empty =
    line (codes "cellsize " ++ signed_decimal spec.cell) ++ line (codes "NODATA_value " ++ empty)

-- the six lines that stand before the rows
abbrev pub head_text : GridSpec → List ℕ → List ℕ
head_text spec empty = size_text spec ++ corner_text spec ++ cell_text spec empty

-- a height, or what stands for an empty cell
abbrev pub height_text : Option ℤ → List ℕ
height_text None = codes "-2147483648"
height_text (Some height) = signed_decimal height

-- a row: its heights with a space between each two
abbrev pub row_text : List (Option ℤ) → List ℕ
row_text heights = line (join_with_byte 32 (map height_text heights))

-- heights, each after a space
abbrev pub after_spaces : List (Option ℤ) → List ℕ
after_spaces heights = flat_map (λ height. 32 ∷ height_text height) heights

-- the heights of the first n rows from the north
abbrev pub first_rows : Cells → ℕ → List (List (Option ℤ))
first_rows grid n = map (row_of grid) (range_with_len 0 n)

-- the lines of all rows, from the north
abbrev pub rows_text : Cells → List ℕ
rows_text grid = flat_map row_text (first_rows grid grid.spec.rows)

abbrev pub grid_text : Cells → List ℕ
grid_text grid = head_text grid.spec (height_text None) ++ rows_text grid
