use Rattle.std.proofs.Common.{◌≡◌, ℕ, ◌+◌, ◌*◌, ◌∙◌, ap, subst, arith, length}
use Rattle.std.specs.Prelude.{fold}
use Rattle.sgm_base.specs.Sides.{Sides}
use Rattle.sgm_grid.specs.Binning.{HasRoom, with_point}
use Rattle.sgm_ground.specs.Heights.{points_of_row}
use Rattle.sgm_ground.proofs.Pointing.{row_fits, row_points, rows_more}
use Rattle.sgm_grid.proofs.Room.{room_for_fewer}
use Rattle.sgm_ground.proofs.adding.add_points.Goals as goal

pub loop-y-preserved : goal.loop-y-preserved
loop-y-preserved c =
    let high : c.size-2.inside.height ≡ c.args.shown.now.map.now.height = ap (λ (s : Sides). s.height) c.size-2.view_is ∙ c.size.ensures.height in
    let width = c.args.shown.now.map.now.width in
    let wide : length c.row.result.now ≡ width = c.row.ensures.whole in
    record {
      value = rows_more (points_of_row c.args.shown.now.station.now c.args.shown.now.span.first c.args.shown.now.map.now) c.loop-y.y c.args.bins.now c.loop-y.bins c.add_row.new.bins c.loop-y.invariant.value
          (c.add_row.ensures.value ∙ ap (fold with_point c.loop-y.bins) (row_points c.args.shown.now.station.now c.args.shown.now.span.first c.args.shown.now.map.now c.loop-y.y _ c.row.result.now (omega (arith, high)) c.row.ensures.value wide));
      room = λ more room.
          let next : more + (c.loop-y.y + 1) * width ≡ (more + length c.row.result.now) + c.loop-y.y * width = omega (arith, wide) in
          c.add_row.ensures.room more (c.loop-y.invariant.room (more + length c.row.result.now) (subst (λ (n : ℕ). HasRoom c.args.bins.now n) next room));
    }

pub add_row-requires-clause-room : goal.add_row-requires-clause-room
add_row-requires-clause-room c =
    let high : c.size-2.inside.height ≡ c.args.shown.now.map.now.height = ap (λ (s : Sides). s.height) c.size-2.view_is ∙ c.size.ensures.height in
    let width = c.args.shown.now.map.now.width in
    let wide : length c.row.result.now ≡ width = c.row.ensures.whole in
    let fits = row_fits c.loop-y.y c.args.shown.now.map.now.height width (omega (arith, high)) in
    c.loop-y.invariant.room (length c.row.result.now) (room_for_fewer c.args.bins.now (c.args.shown.now.map.now.height * width) (length c.row.result.now + c.loop-y.y * width) (omega (arith, fits, wide)) c.requires)
