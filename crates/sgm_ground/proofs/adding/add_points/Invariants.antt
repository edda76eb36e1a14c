use Rattle.std.proofs.Common.{◌≡◌, ℕ, ◌+◌, ◌*◌}
use Rattle.std.specs.Prelude.{fold}
use Rattle.std.specs.List.{flat_map, range_with_len}
use Rattle.sgm_grid.specs.Binning.{HasRoom, with_point}
use Rattle.sgm_ground.specs.Heights.{points_of_row}
use Rattle.sgm_ground.proofs.adding.add_points.Given as goal

abbrev pub invariant-loop-y : goal.invariant-loop-y
invariant-loop-y l = record {
  value : l.bins ≡ fold with_point l.fn.bins (flat_map (points_of_row l.shown.station.now l.shown.span.first l.shown.map.now) (range_with_len 0 l.y));
  room : (more : ℕ) → HasRoom l.fn.bins (more + l.y * l.shown.map.now.width) → HasRoom l.bins more;
}
