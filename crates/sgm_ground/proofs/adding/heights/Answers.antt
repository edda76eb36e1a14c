use Rattle.std.proofs.Common.{◌≡◌, ◌*◌, ◌≤◌, ◌∙◌, List, ap, arith}
use Rattle.std.specs.Prelude.{fold}
use Rattle.std.proofs.lemmas.Nat.{mul-le}
use Rattle.sgm_base.specs.Values.{Values, IsValues}
use Rattle.sgm_base.specs.declared.point.Point.{Point}
use Rattle.sgm_grid.specs.Binning.{Binned, HasRoom, grid_in, most_points, no_points, with_point}
use Rattle.sgm_grid.specs.Cells.{Cells, IsGridSpec}
use Rattle.sgm_grid.specs.Keeping.{gridded}
use Rattle.sgm_grid.specs.Placing.{spec_in}
use Rattle.sgm_grid.specs.declared.grid_spec.GridSpec.{GridSpec}
use Rattle.sgm_grid.specs.declared.keep.Keep.{Keep}
use Rattle.sgm_grid.proofs.Kept.{points_are_kept}
use Rattle.sgm_grid.proofs.Placing.{none-spec}
use Rattle.sgm_grid.proofs.Room.{room_for_fewer}
use Rattle.sgm_ground.specs.Heights.{points_of}
use Rattle.sgm_threads.proofs.Pieces.{if_ok}
use Rattle.sgm_ground.proofs.adding.heights.Goals as goal

-- a map has no more pixels than there is room for
room_for_map : (bins : Binned) (map : Values) → IsValues map → HasRoom bins most_points → HasRoom bins (map.height * map.width)
room_for_map bins map kept room =
    let few : map.height * map.width ≤ 4096 * 4096 =
    mul-le map.height map.width 4096 4096 (omega (arith, kept.height_in_range.1)) (omega (arith, kept.width_in_range.1)) in
    room_for_fewer bins most_points (map.height * map.width) (omega (arith, few)) room

-- the grid of points that were added to empty cells
grid_made : (keep : Keep) (spec : GridSpec) (points : List Point) (start bins : Binned) (grid : Cells) → IsGridSpec spec → start ≡ no_points keep spec
    → bins ≡ fold with_point start points → grid ≡ grid_in bins → grid ≡ gridded keep spec points
grid_made keep spec points start bins grid kept none added is =
    is ∙ ap grid_in (added ∙ ap (λ (b : Binned). fold with_point b points) none) ∙ points_are_kept keep spec points kept

pub add_shared-requires-clause-same : goal.add_shared-requires-clause-same
add_shared-requires-clause-same g c lifetimes within = ap spec_in c.in_ok-bins.ensures.value ∙ none-spec c.args.keep c.args.shown.now.spec

pub add_shared-requires-clause-room : goal.add_shared-requires-clause-room
add_shared-requires-clause-room g c lifetimes within = room_for_map c.in_ok-bins.bins c.args.shown.now.map.now c.size-size.ensures.kept c.in_ok-bins.ensures.room

pub returns-then-threads-gt1 : goal.returns-then-threads-gt1
returns-then-threads-gt1 g c =
    let shown = c.args.shown.now in
    if_ok c.grid.result
    (λ grid e. grid_made c.args.keep shown.spec (points_of shown.station.now shown.span.first shown.map.now) c.in_ok-bins.bins _ grid shown.spec_kept c.in_ok-bins.ensures.value c.in_ok-add_shared.ensures e)
    c.grid.ensures

pub add_points-requires : goal.add_points-requires
add_points-requires g c = room_for_map c.in_ok-bins.bins c.args.shown.now.map.now c.size-size.ensures.kept c.in_ok-bins.ensures.room

pub returns : goal.returns
returns g c =
    let shown = c.args.shown.now in
    if_ok c.grid-2.result
    (λ grid e. grid_made c.args.keep shown.spec (points_of shown.station.now shown.span.first shown.map.now) c.in_ok-bins.bins _ grid shown.spec_kept c.in_ok-bins.ensures.value c.add_points.ensures e)
    c.grid-2.ensures
