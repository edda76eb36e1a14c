use Rattle.std.proofs.Common.{◌≡◌, ◌-◌}
use Rattle.sgm_grid.specs.Binning.{HasRoom, grid_in, most_points}
use Rattle.sgm_cases.proofs.cells.add_points.Given as goal

abbrev pub invariant-loop-word : goal.invariant-loop-word
invariant-loop-word l = record {
  room : HasRoom l.bins (most_points - l.word-index);
  place : (grid_in l.bins).spec ≡ (grid_in l.fn.bins).spec;
}
