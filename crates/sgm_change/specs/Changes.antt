-- What came, what went, and what changed between two grids of the same ground. A cell of both is
-- its height in the earlier and its height in the later one, or none where it is empty.
use Rattle.std.specs.Prelude.{ℕ, ◌*◌, ◌&&◌, Bool, ℤ, List, count_by, sum_by, is_some, is_none}
use Rattle.std.specs.Prelude.{Option, Some}
use Rattle.std.specs.List.{zip}
use Rattle.sgm_grid.specs.Cells.{Cells}
use Rattle.sgm_report.specs.Tallies.{above, below, square}
use Rattle.sgm_change.specs.declared.compare.Changed.{Changed}

-- the cells of both grids, row by row from the north
abbrev pub both_cells : Cells → Cells → List (Option ℤ × Option ℤ)
both_cells earlier later = zip earlier.heights later.heights

-- whether a cell has a height in both
abbrev pub in_both : Option ℤ × Option ℤ → Bool
in_both cell = is_some cell.0 && is_some cell.1

-- whether a cell has a height in the later one alone
abbrev pub has_come : Option ℤ × Option ℤ → Bool
has_come cell = is_none cell.0 && is_some cell.1

-- whether a cell has a height in the earlier one alone
abbrev pub has_gone : Option ℤ × Option ℤ → Bool
has_gone cell = is_some cell.0 && is_none cell.1

-- whether a cell is empty in both
abbrev pub in_neither : Option ℤ × Option ℤ → Bool
in_neither cell = is_none cell.0 && is_none cell.1

-- how far a cell rose: 0 where it didn't, or hasn't a height in both
abbrev pub rise : Option ℤ → Option ℤ → ℕ
rise (Some earlier) (Some later) = above earlier later
rise _ _ = 0

-- how far a cell fell: 0 where it didn't, or hasn't a height in both
abbrev pub fall : Option ℤ → Option ℤ → ℕ
fall (Some earlier) (Some later) = below earlier later
fall _ _ = 0

-- what cells of that side amount to
abbrev pub changed_over : ℤ → List (Option ℤ × Option ℤ) → Changed
changed_over side cells = record {
  both = count_by in_both cells;
  come = count_by has_come cells;
  gone = count_by has_gone cells;
  empty = count_by in_neither cells;
  fill = sum_by (λ cell. rise cell.0 cell.1 * square side) cells;
  cut = sum_by (λ cell. fall cell.0 cell.1 * square side) cells;
}

-- what changed between two grids
abbrev pub change_of : Cells → Cells → Changed
change_of earlier later = changed_over earlier.spec.cell (both_cells earlier later)
