use Rattle.std.proofs.Common.{◌≡◌, ◌+◌, ◌-◌, ◌*◌}
use Rattle.sgm_report.specs.Sums.{HasRoom, sums_over}
use Rattle.sgm_report.proofs.Cells.{first_rows}
use Rattle.sgm_report.proofs.volumes.sums_of.Given as goal

abbrev pub invariant-loop-row : goal.invariant-loop-row
invariant-loop-row l = record {
  value : l.sums ≡ sums_over (first_rows l.layers.grid.now l.layers.measured.now l.region (l.row - l.region.row));
  room : HasRoom l.sums ((l.region.row + l.region.rows - l.row) * l.region.cols);
}
