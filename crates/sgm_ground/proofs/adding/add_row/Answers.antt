use Rattle.std.proofs.Common.{◌≡◌, ◌+◌, None, sym, subst, ◌∙◌, get_or, arith}
use Rattle.sgm_grid.specs.Binning.{Binned, HasRoom, with_point}
use Rattle.std.specs.Prelude.{fold}
use Rattle.std.specs.List.{filter_map, range_with_len}
use Rattle.std.specs.Prelude.{IfSome, ◌≤◌, ℕ, Option, length, option_and_then}
use Rattle.std.proofs.lemmas.List.Elements.{All-get_or}
use Rattle.sgm_base.specs.declared.point.Point.{Point}
use Rattle.sgm_ground.specs.Heights.{point_at}
use Rattle.sgm_ground.proofs.Pointing.{row_none, row_point}
use Rattle.sgm_grid.proofs.Room.{room_for_fewer}
use Rattle.sgm_ground.proofs.adding.add_row.Goals as goal
use Rattle.sgm_ground.proofs.adding.add_row.Goals.{in-Some, in_default}

pub pixel_point-requires-clause-value : goal.pixel_point-requires-clause-value
pixel_point-requires-clause-value c =
    All-get_or (λ (entry : Option ℕ). IfSome entry (λ v. v ≤ 4080)) c.args.row.now c.loop-x.x None c.loop-x-test.true c.requires.values

pub loop-x-preserved : goal.loop-x-preserved
loop-x-preserved c =
    let f : ℕ → Option Point = λ x. option_and_then (point_at c.args.shown.now.station.now c.args.shown.now.span.first x c.args.y) (get_or c.args.row.now x None) in
    record {
      value = elim c.match-pixel_point.branch [
        | in-Some w ↦ row_point f c.loop-x.x c.args.bins.now c.loop-x.bins c.match-pixel_point.bins w.in-Some.found c.loop-x.invariant.value w.in-Some.ensures.exact (w.bins-is ∙ w.add.ensures.value)
        | in_default w ↦ subst (λ g. g ≡ fold with_point c.args.bins.now (filter_map f (range_with_len 0 (c.loop-x.x + 1)))) (sym w.bins-is)
            (row_none f c.loop-x.x c.args.bins.now c.loop-x.bins c.loop-x.invariant.value w.in_default.ensures.exact)
      ];
      room = λ more room.
          let next : more + (c.loop-x.x + 1) ≡ (more + 1) + c.loop-x.x = omega arith in
          let left = c.loop-x.invariant.room (more + 1) (subst (λ (n : ℕ). HasRoom c.args.bins.now n) next room) in
          elim c.match-pixel_point.branch [
            | in-Some w ↦ subst (λ (b : Binned). HasRoom b more) (sym w.bins-is) (w.add.ensures.room more left)
            | in_default w ↦ subst (λ (b : Binned). HasRoom b more) (sym w.bins-is) (room_for_fewer c.loop-x.bins (more + 1) more (omega arith) left)
          ];
    }

pub add-requires-clause-room : goal.add-requires-clause-room
add-requires-clause-room c =
    let count = length c.args.row.now in
    let inside : 1 + c.loop-x.x ≤ count = omega (arith, c.loop-x-test.true) in
    c.loop-x.invariant.room 1 (room_for_fewer c.args.bins.now count (1 + c.loop-x.x) inside c.requires.room)
