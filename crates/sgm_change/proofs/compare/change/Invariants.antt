use Rattle.std.proofs.Common.{◌≡◌, ◌-◌, ◌*◌, take}
use Rattle.sgm_change.specs.Changes.{both_cells}
use Rattle.sgm_change.specs.Counts.{HasRoom, counts_of}
use Rattle.sgm_change.proofs.compare.change.Given as goal

abbrev pub invariant-loop-row : goal.invariant-loop-row
invariant-loop-row l = record {
  value : l.counts ≡ counts_of (take (l.row * l.earlier.spec.cols) (both_cells l.earlier l.later));
  room : HasRoom l.counts ((l.earlier.spec.rows - l.row) * l.earlier.spec.cols);
}
