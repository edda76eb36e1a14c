use Rattle.std.proofs.Common.{◌≡◌, ◌+◌, ◌*◌, ◌<◌, length, arith, subst, sym, ◌∙◌}
use Rattle.std.specs.Prelude.{All}
use Rattle.sgm_grid.specs.declared.grid_spec.GridSpec.{GridSpec}
use Rattle.sgm_grid.specs.Placing.{IsPlaced, spec_in}
use Rattle.sgm_grid.proofs.Room.{room_for_fewer}
use Rattle.sgm_ground.proofs.Places.{room_after_row, row_held, row_more}
use Rattle.sgm_ground.proofs.Pointing.{row_fits}
use Rattle.sgm_ground.proofs.placing.add_rows.Goals as goal

pub add_places-requires-clause-places : goal.add_places-requires-clause-places
add_places-requires-clause-places c =
    let shown = c.args.shown.now in
    let y = c.loop-y.y in
    let places = c.deref.result.now in
    let row = row_held shown.station.now shown.spec shown.span.first shown.map.now c.args.rows.now y c.index-rows-y.result places c.requires.placed c.loop-y-test.true c.index-rows-y.is c.deref.ensures.value in
    let same : spec_in c.loop-y.bins ≡ shown.spec = c.loop-y.invariant.spec ∙ c.requires.spec in
    subst (λ (s : GridSpec). All (IsPlaced s) places) (sym same) row.within

pub add_places-requires-clause-room : goal.add_places-requires-clause-room
add_places-requires-clause-room c =
    let shown = c.args.shown.now in
    let y = c.loop-y.y in
    let places = c.deref.result.now in
    let row = row_held shown.station.now shown.spec shown.span.first shown.map.now c.args.rows.now y c.index-rows-y.result places c.requires.placed c.loop-y-test.true c.index-rows-y.is c.deref.ensures.value in
    let width = shown.map.now.width in
    let height = shown.map.now.height in
    let inside : y < height = omega (arith, c.loop-y-test.true, c.requires.count) in
    let fits = row_fits y height width inside in
    c.loop-y.invariant.room (length places) (room_for_fewer c.args.bins.now (height * width) (length places + y * width) (omega (arith, fits, row.few)) c.requires.room)

pub loop-y-preserved : goal.loop-y-preserved
loop-y-preserved c =
    let shown = c.args.shown.now in
    let y = c.loop-y.y in
    let places = c.deref.result.now in
    let row = row_held shown.station.now shown.spec shown.span.first shown.map.now c.args.rows.now y c.index-rows-y.result places c.requires.placed c.loop-y-test.true c.index-rows-y.is c.deref.ensures.value in
    let same : spec_in c.loop-y.bins ≡ shown.spec = c.loop-y.invariant.spec ∙ c.requires.spec in
    record {
      value = row_more shown.station.now shown.spec shown.span.first shown.map.now y c.args.bins.now c.loop-y.bins c.add_places.new.bins places
          c.loop-y.invariant.value same row c.add_places.ensures.value;
      spec = c.add_places.ensures.spec ∙ c.loop-y.invariant.spec;
      room = room_after_row shown.map.now.width y (length places) c.args.bins.now c.loop-y.bins c.add_places.new.bins row.few c.loop-y.invariant.room c.add_places.ensures.room;
    }
