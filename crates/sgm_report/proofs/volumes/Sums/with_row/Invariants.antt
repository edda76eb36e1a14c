use Rattle.std.proofs.Common.{◌≡◌, ℕ, ◌+◌, ◌-◌, ◌++◌, List}
use Rattle.sgm_report.specs.Sums.{HasRoom, sums_over}
use Rattle.sgm_report.specs.declared.volumes.RegionCell.{RegionCell}
use Rattle.sgm_report.proofs.Cells.{first_cells}
use Rattle.sgm_report.proofs.volumes.Sums.with_row.Given as goal

abbrev pub invariant-loop-index : goal.invariant-loop-index
invariant-loop-index l = record {
  value : (cells : List RegionCell) → l.fn.self ≡ sums_over cells
      → l.sums ≡ sums_over (cells ++ first_cells l.layers.grid.now l.layers.measured.now l.region l.row l.index);
  room : (left : ℕ) → HasRoom l.fn.self (left + l.region.cols) → HasRoom l.sums (left + (l.region.cols - l.index));
}
