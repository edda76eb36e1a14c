-- What is held of grids while they are merged.
use Rattle.std.specs.Prelude.{◌≡◌, ℕ, ◌+◌, ◌*◌, ◌≤◌, List, All, length, replicate, slice_index_or}
use Rattle.sgm_base.specs.Values.{row_by_row}
use Rattle.sgm_grid.specs.declared.grid_spec.GridSpec.{GridSpec}
use Rattle.sgm_grid.specs.declared.keep.Keep.{Keep}
use Rattle.sgm_grid.specs.Cells.{Cells, IsGridSpec, cell_index, cells_of}
use Rattle.sgm_merge.specs.Merged.{height_over}
use Rattle.sgm_merge.specs.Tallies.{Heights, kept_of, no_heights, with_cell}

-- what cells keep, the ranges of the merged grid, how many grids were added, and what each cell
-- holds of their heights, row by row from the north
pub record Merging : Type 0 where
  pub keep : Keep
  pub spec : GridSpec
  pub entries : ℕ
  pub held : List Heights

abbrev pub merging_of : Keep → GridSpec → ℕ → List Heights → Merging
merging_of keep spec entries held =
    record { keep = keep; spec = spec; entries = entries; held = held }

-- what the cell in that column and in that row from the north holds
abbrev pub held_at : GridSpec → List Heights → ℕ → ℕ → Heights
held_at spec held col row = slice_index_or held (cell_index spec col row) no_heights

-- what is held of no grids
abbrev pub no_entries : Keep → GridSpec → Merging
no_entries keep spec = merging_of keep spec 0 (replicate (spec.cols * spec.rows) no_heights)

-- what is held after a grid: each cell got the height that it has there
abbrev pub with_entry : Merging → Cells → Merging
with_entry merging entry =
    merging_of merging.keep merging.spec (merging.entries + 1)
    (row_by_row merging.spec.cols merging.spec.rows (λ col row.
    with_cell (held_at merging.spec merging.held col row)
    (height_over merging.spec entry col row)))

-- the grid that it makes
abbrev pub grid_in : Merging → Cells
grid_in merging =
    cells_of merging.spec (row_by_row merging.spec.cols merging.spec.rows
    (λ col row. kept_of merging.keep (held_at merging.spec merging.held col row)))

-- what every merge keeps
pub record IsMerging (merging : Merging) : Type 0 where
  pub ranges : IsGridSpec merging.spec
  pub full : length merging.held ≡ merging.spec.cols * merging.spec.rows
  pub few : All (λ (held : Heights). held.count ≤ merging.entries) merging.held
