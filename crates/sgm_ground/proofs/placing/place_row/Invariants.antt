use Rattle.std.proofs.Common.{◌≡◌, ◌≤◌, None, get_or, length}
use Rattle.std.specs.Prelude.{All, option_and_then}
use Rattle.sgm_grid.specs.Placing.{IsPlaced}
use Rattle.sgm_ground.specs.Heights.{point_at}
use Rattle.sgm_ground.proofs.Places.{places_below}
use Rattle.sgm_ground.proofs.placing.place_row.Given as goal

abbrev pub invariant-loop-x : goal.invariant-loop-x
invariant-loop-x l = record {
  exact : l.places.items ≡ places_below l.shown.spec (λ x. option_and_then (point_at l.shown.station.now l.shown.span.first x l.y) (get_or l.row x None)) l.x;
  within : All (IsPlaced l.shown.spec) l.places.items;
  few : length l.places.items ≤ l.x;
}
