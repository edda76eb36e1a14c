use Rattle.std.proofs.Common.{◌≡◌, ℕ, ◌+◌, ◌-◌, arith, ap, subst, ◌∙◌}
use Rattle.sgm_grid.specs.Binning.{Binned, HasRoom, grid_in, most_points}
use Rattle.sgm_grid.proofs.Room.{room_for_fewer}
use Rattle.sgm_cases.proofs.Grids.{point_there}
use Rattle.sgm_cases.proofs.cells.add_points.Goals as goal

pub add-requires-clause-room : goal.add-requires-clause-room
add-requires-clause-room c =
    room_for_fewer c.loop-word.bins (most_points - c.loop-word.word-index) 1 (omega (arith, c.loop-word-test.true, c.requires.few)) c.loop-word.invariant.room

pub loop-word-preserved : goal.loop-word-preserved
loop-word-preserved c =
    let index = c.loop-word.word-index in
    let one : most_points - index ≡ (most_points - (index + 1)) + 1 = omega (arith, c.loop-word-test.true, c.requires.few) in
    record {
      room = c.add.ensures.room (most_points - (index + 1)) (subst (λ (n : ℕ). HasRoom c.loop-word.bins n) one c.loop-word.invariant.room);
      place =
          ap (λ (b : Binned). (grid_in b).spec) c.add.ensures.value ∙ point_there c.loop-word.bins c.in-Some.point ∙ c.loop-word.invariant.place;
    }
