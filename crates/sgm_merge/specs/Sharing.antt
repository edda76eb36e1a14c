-- The columns and the rows that two grids share. No public clause cites these words.
use Rattle.std.specs.Prelude.{ℕ, ◌+◌, ◌-◌, ◌≤◌, ◌&&◌, nat_le, nat_lt, ℤ, List, Option, Some, None}
use Rattle.std.specs.Prelude.{slice_index_or, if◌then◌else◌}
use Rattle.sgm_merge.specs.declared.shared.Shared.{Shared}

-- the line of an entry that is that line of the grid, or none
abbrev pub line_in : Shared → ℕ → Option ℕ
line_in shared line =
    if nat_le shared.first line && nat_lt line (shared.first + shared.count)
    then Some (line - shared.first + shared.entry_first) else None

-- a column and a row, or none where one is missing
abbrev pub both : Option ℕ → Option ℕ → Option (ℕ × ℕ)
both (Some col) (Some row) = Some (col, row)
both _ _ = None

-- lines of the one and of the other
pub record AreLines (lines entry_lines : ℕ) (shared : Shared) : Type 0 where
  pub inside : shared.first + shared.count ≤ lines
  pub entry_inside : shared.entry_first + shared.count ≤ entry_lines

-- what heights that begin at a place have at another
abbrev pub from_place : ℕ → List (Option ℤ) → ℕ → Option ℤ
from_place at heights place =
    if nat_lt place at then None else slice_index_or heights (place - at) None
