-- The text of a difference of two grids, and that of the volumes between them.
use Rattle.std.specs.Prelude.{ℕ, ℤ, ◌-ℤ◌, List, [], ◌∷◌, ◌++◌, map, flat_map, codes, decimal}
use Rattle.std.specs.Prelude.{Option, Some, None}
use Rattle.std.specs.Fmt.{signed_decimal}
use Rattle.std.specs.List.{join_with_byte, range_with_len, zip}
use Rattle.sgm_grid.specs.Cells.{Cells, row_of}
use Rattle.sgm_text.specs.Texts.{line}
use Rattle.sgm_grid.specs.Text.{head_text}
use Rattle.sgm_report.specs.Table.{fields_line}
use Rattle.sgm_change.specs.declared.compare.Changed.{Changed}

-- the later height less the earlier one, or what stands for a cell that hasn't both
abbrev pub difference_text : Option ℤ → Option ℤ → List ℕ
difference_text (Some earlier) (Some later) = signed_decimal (later -ℤ earlier)
difference_text _ _ = codes "-9999999999"

-- the same of a cell of both grids
abbrev pub cell_text : Option ℤ × Option ℤ → List ℕ
cell_text cell = difference_text cell.0 cell.1

-- a row: its differences with a space between each two
abbrev pub row_text : List (Option ℤ × Option ℤ) → List ℕ
row_text cells = line (join_with_byte 32 (map cell_text cells))

-- differences, each after a space
abbrev pub after_spaces : List (Option ℤ × Option ℤ) → List ℕ
after_spaces cells = flat_map (λ cell. 32 ∷ cell_text cell) cells

-- the cells of both grids in that row from the north
abbrev pub both_row : Cells → Cells → ℕ → List (Option ℤ × Option ℤ)
both_row earlier later row = zip (row_of earlier row) (row_of later row)

-- the lines of the first n rows from the north
abbrev pub rows_text : Cells → Cells → ℕ → List ℕ
rows_text earlier later n = flat_map row_text (map (both_row earlier later) (range_with_len 0 n))

-- the text of the difference of two grids
abbrev pub grids_text : Cells → Cells → List ℕ
grids_text earlier later = head_text earlier.spec (difference_text None None)
    ++ rows_text earlier later earlier.spec.rows

-- the counts and volumes in the order of their names
abbrev pub volumes_of : Changed → List ℕ
volumes_of changed = changed.both ∷ changed.come ∷ changed.gone ∷ changed.empty ∷ changed.fill
    ∷ changed.cut ∷ []

-- the line of their names, and the line of their numbers
abbrev pub volumes_text : Changed → List ℕ
volumes_text changed = line (codes "both,come,gone,empty,fill,cut")
    ++ fields_line (map decimal (volumes_of changed))
