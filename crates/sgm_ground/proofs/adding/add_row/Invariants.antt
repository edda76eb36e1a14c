use Rattle.std.proofs.Common.{◌≡◌, ℕ, ◌+◌, None, get_or}
use Rattle.std.specs.Prelude.{fold, option_and_then}
use Rattle.std.specs.List.{filter_map, range_with_len}
use Rattle.sgm_grid.specs.Binning.{HasRoom, with_point}
use Rattle.sgm_ground.specs.Heights.{point_at}
use Rattle.sgm_ground.proofs.adding.add_row.Given as goal

abbrev pub invariant-loop-x : goal.invariant-loop-x
invariant-loop-x l = record {
  value : l.bins ≡ fold with_point l.fn.bins (filter_map (λ x. option_and_then (point_at l.shown.station.now l.shown.span.first x l.y) (get_or l.row x None)) (range_with_len 0 l.x));
  room : (more : ℕ) → HasRoom l.fn.bins (more + l.x) → HasRoom l.bins more;
}
