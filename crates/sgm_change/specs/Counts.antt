-- What the code holds of some cells while it goes over two grids.
use Rattle.std.specs.Prelude.{ℕ, ◌+◌, ◌*◌, ◌≤◌, ℤ, List, Option, count_by, sum_by}
use Rattle.sgm_report.specs.Sums.{most_apart, most_cells}
use Rattle.sgm_change.specs.Changes.{fall, has_come, has_gone, in_both, in_neither, rise}
use Rattle.sgm_change.specs.declared.compare.Counts.{Counts}

-- the counts of some cells
abbrev pub counts_of : List (Option ℤ × Option ℤ) → Counts
counts_of cells = record {
  both = count_by in_both cells;
  come = count_by has_come cells;
  gone = count_by has_gone cells;
  empty = count_by in_neither cells;
  risen = sum_by (λ cell. rise cell.0 cell.1) cells;
  fallen = sum_by (λ cell. fall cell.0 cell.1) cells;
}

-- counts that stay in their bounds with that many cells more
pub record HasRoom (counts : Counts) (count : ℕ) : Type 0 where
  pub cells : counts.both + counts.come + counts.gone + counts.empty + count ≤ most_cells
  pub rises : counts.risen + count * most_apart ≤ most_cells * most_apart
  pub falls : counts.fallen + count * most_apart ≤ most_cells * most_apart
