-- Heights of empty cells, bridged from those of the nearest cells that have one.
use Rattle.std.specs.Prelude.{ℕ, ◌+◌, ℤ, pos, ◌+ℤ◌, ◌-ℤ◌, ◌*ℤ◌, Bool, int_le, unsigned_abs, List}
use Rattle.std.specs.Prelude.{[], ◌∷◌, drop, take, reverse, filter_map, map, Option, Some, None}
use Rattle.std.specs.Prelude.{if◌then◌else◌}
use Rattle.std.specs.Option.{option_or}
use Rattle.std.specs.List.{range_with_len}
use Rattle.sgm_base.specs.Rounding.{rounded}
use Rattle.sgm_base.specs.Values.{row_by_row}
use Rattle.sgm_grid.specs.Cells.{Cells, cells_of, height_at, row_of}
use Rattle.sgm_grid.specs.Keeping.{mean}

-- a height, and how many cells away it is
pub record Pier : Type 0 where
  pub away : ℕ
  pub height : ℤ

-- the pier of which that many cells more lie in front
abbrev pub further : Option Pier → Option Pier
further None = None
further (Some pier) = Some (record { away = pier.away + 1; height = pier.height })

-- the first height of some cells, the first of which is one cell away
abbrev pub first_pier : List (Option ℤ) → Option Pier
first_pier [] = None
first_pier (Some height ∷ cells) = Some (record { away = 1; height = height })
first_pier (None ∷ cells) = further (first_pier cells)

-- how many cells two piers are apart, with one between them that is bridged
abbrev pub apart : Pier → Pier → ℕ
apart before behind = before.away + behind.away

-- whether a bridge between two heights rises by no more than a cell's side from cell to cell
abbrev pub is_gentle : ℤ → Pier → Pier → Bool
is_gentle side before behind =
    int_le (pos (unsigned_abs (before.height -ℤ behind.height))) (pos (apart before behind) *ℤ side)

-- the height between two, by how far away each is
abbrev pub between : Pier → Pier → ℤ
between before behind =
    rounded ((before.height *ℤ pos behind.away) +ℤ (behind.height *ℤ pos before.away))
    (pos (apart before behind))

-- what a bridge gives, where there are two piers for it and it isn't too steep
abbrev pub span_height : ℤ → Option Pier → Option Pier → Option ℤ
span_height side (Some before) (Some behind) =
    if is_gentle side before behind then Some (between before behind) else None
span_height side _ _ = None

-- what a line of cells gives for one of them: from the first height before it to the first behind
-- it, each at most so far away
abbrev pub across : ℤ → ℕ → List (Option ℤ) → ℕ → Option ℤ
across side most line at =
    span_height side (first_pier (take most (reverse (take at line))))
    (first_pier (take most (drop (at + 1) line)))

-- the heights of that column, from the north
abbrev pub column_of : Cells → ℕ → List (Option ℤ)
column_of grid col = map (height_at grid col) (range_with_len 0 grid.spec.rows)

-- the heights that the row and the column of a cell give for it, none to two
abbrev pub spans_over : ℕ → Cells → ℕ → ℕ → List ℤ
spans_over most grid col row =
    filter_map (λ span. span) (across grid.spec.cell most (row_of grid row) col
    ∷ across grid.spec.cell most (column_of grid col) row ∷ [])

-- the height of a cell, or else the mean of what its row and its column give for it
abbrev pub bridged_at : ℕ → Cells → ℕ → ℕ → Option ℤ
bridged_at most grid col row =
    option_or (height_at grid col row) (mean (spans_over most grid col row))

-- the grid with its bridges, each over at most so many cells to each side; they rest on heights of
-- points alone
unfoldable pub bridged : ℕ → Cells → Cells
bridged most grid =
    cells_of grid.spec (row_by_row grid.spec.cols grid.spec.rows (bridged_at most grid))
