use Rattle.std.proofs.Common.{◌≡◌, ℕ, ◌+◌, ◌-◌, ◌<◌, ◌≤◌, Bool, false, length, get_or, ℤ, Option, None, sym, ap, subst, ◌∙◌, arith}
use Rattle.std.specs.Prelude.{is_some}
use Rattle.std.specs.Option.{ForSome}
use Rattle.std.proofs.lemmas.List.Elements.{All-get_or}
use Rattle.sgm_grid.specs.Cells.{IsHeight, height_at}
use Rattle.sgm_grid.specs.declared.grid_spec.GridSpec.{GridSpec}
use Rattle.sgm_report.specs.Areas.{Area, lies_inside}
use Rattle.sgm_report.specs.Bases.{base_at}
use Rattle.sgm_report.specs.Sums.{HasRoom}
use Rattle.sgm_report.specs.declared.volumes.Sums.{Sums}
use Rattle.sgm_report.proofs.Cells.{cell_is, row_ends, row_more, row_past, told, told_all}
use Rattle.sgm_report.proofs.Counted.{base_kept, room_for_fewer}
use Rattle.sgm_report.proofs.Planes.{based_everywhere}
use Rattle.sgm_report.proofs.volumes.Sums.with_row.Goals as goal
use Rattle.sgm_report.proofs.volumes.Sums.with_row.Goals.{then-inside-index, else-inside-index}

pub with_cell-sums-requires-clause-base : goal.with_cell-sums-requires-clause-base
with_cell-sums-requires-clause-base c =
    let spec = c.args.layers.now.grid.now.spec in
    let area = c.args.region.now in
    let own = c.region.inside in
    let index = c.loop-index.index in
    let row = c.args.row in
    let marks : length c.args.inside.now ≡ area.cols =
    told_all (λ col. lies_inside spec area.outline col row) area c.args.inside.now c.requires.inside in
    let at : c.at.result ≡ base_at spec area.base (area.col + index) row =
    c.at.ensures ∙ ap (λ (s : GridSpec). base_at s own.base (own.col + index) row) c.spec-spec.ensures.spec
    ∙ ap (λ (a : Area). base_at spec a.base (a.col + index) row) c.region.view_is in
    let range : IsHeight (base_at spec area.base (area.col + index) row) =
    based_everywhere spec area (area.col + index) row c.requires.ranges c.requires.region.inside c.requires.region.based (omega arith)
    (omega (arith, c.loop-index-test.true, marks)) c.requires.row.0 c.requires.row.1 in
    subst IsHeight (sym (base_kept c.at.result _ at range)) range

pub with_cell-sums-requires-clause-height : goal.with_cell-sums-requires-clause-height
with_cell-sums-requires-clause-height c =
    let area = c.args.region.now in
    let marks : length c.args.inside.now ≡ area.cols =
    told_all (λ col. lies_inside c.args.layers.now.grid.now.spec area.outline col c.args.row) area c.args.inside.now c.requires.inside in
    All-get_or (λ (o : Option ℤ). ForSome o IsHeight) c.row_of-heights.result.now c.loop-index.index None
    (omega (arith, c.loop-index-test.true, marks, c.row_of-heights.ensures.whole)) c.row_of-heights.ensures.in_range

pub with_cell-sums-requires-clause-room : goal.with_cell-sums-requires-clause-room
with_cell-sums-requires-clause-room c =
    let area = c.args.region.now in
    let index = c.loop-index.index in
    let marks : length c.args.inside.now ≡ area.cols =
    told_all (λ col. lies_inside c.args.layers.now.grid.now.spec area.outline col c.args.row) area c.args.inside.now c.requires.inside in
    let start : HasRoom c.args.self (0 + area.cols) = subst (λ (n : ℕ). HasRoom c.args.self n) (omega arith) c.requires.room in
    let one : 1 ≤ 0 + (area.cols - index) = omega (arith, c.loop-index-test.true, marks) in
    room_for_fewer c.loop-index.sums _ 1 one (c.loop-index.invariant.room 0 start)

pub loop-index-preserved : goal.loop-index-preserved
loop-index-preserved c =
    let grid = c.args.layers.now.grid.now in
    let measured = c.args.layers.now.measured.now in
    let spec = grid.spec in
    let area = c.args.region.now in
    let own = c.region.inside in
    let index = c.loop-index.index in
    let row = c.args.row in
    let col : ℕ = area.col + index in
    let lies : ℕ → Bool = λ (col : ℕ). lies_inside spec area.outline col row in
    let marks : length c.args.inside.now ≡ area.cols = told_all lies area c.args.inside.now c.requires.inside in
    let within : index < area.cols = omega (arith, c.loop-index-test.true, marks) in
    let mark : get_or c.args.inside.now index false ≡ lies_inside spec area.outline col row =
    told lies area c.args.inside.now index false c.requires.inside within in
    let height : get_or c.row_of-heights.result.now index None ≡ height_at grid col row =
    told (λ (col : ℕ). height_at grid col row) area c.row_of-heights.result.now index None c.row_of-heights.ensures.value within in
    let known : get_or c.row_of-measured.result.now index None ≡ height_at measured col row =
    told (λ (col : ℕ). height_at measured col row) area c.row_of-measured.result.now index None c.row_of-measured.ensures.value within in
    let range : IsHeight (base_at spec area.base col row) =
    based_everywhere spec area col row c.requires.ranges c.requires.region.inside c.requires.region.based (omega arith)
    (omega (arith, within)) c.requires.row.0 c.requires.row.1 in
    elim c.if-inside-index.branch [
      | then-inside-index w ↦ (
          let at : w.at.result ≡ base_at spec area.base col row =
          w.at.ensures ∙ ap (λ (s : GridSpec). base_at s own.base (own.col + index) row) c.spec-spec.ensures.spec
          ∙ ap (λ (a : Area). base_at spec a.base (a.col + index) row) c.region.view_is in
          record {
            value = λ cells e.
                w.sums-is
                ∙ row_more grid measured area row index _ c.args.self c.loop-index.sums w.with_cell-sums.result
                (sym mark ∙ w.if-inside-index.true)
                (cell_is grid measured area row col _ _ _ height (w.is_some.ensures ∙ ap is_some known) (base_kept w.at.result _ at range))
                c.loop-index.invariant.value w.with_cell-sums.ensures.value cells e;
            room = λ left room.
                let next : left + (area.cols - index) ≡ left + (area.cols - (index + 1)) + 1 = omega (arith, within) in
                subst (λ (s : Sums). HasRoom s (left + (area.cols - (index + 1)))) (sym w.sums-is)
                (w.with_cell-sums.ensures.room (left + (area.cols - (index + 1)))
                (subst (λ (n : ℕ). HasRoom c.loop-index.sums n) next (c.loop-index.invariant.room left room)));
          })
      | else-inside-index w ↦ record {
        value = λ cells e.
            w.sums-is
            ∙ row_past grid measured area row index c.args.self c.loop-index.sums (sym mark ∙ w.if-inside-index.false)
            c.loop-index.invariant.value cells e;
        room = λ left room.
            subst (λ (s : Sums). HasRoom s (left + (area.cols - (index + 1)))) (sym w.sums-is)
            (room_for_fewer c.loop-index.sums (left + (area.cols - index)) (left + (area.cols - (index + 1))) (omega arith)
            (c.loop-index.invariant.room left room));
      }
    ]

pub returns-clause-value : goal.returns-clause-value
returns-clause-value c =
    let grid = c.args.layers.now.grid.now in
    let area = c.args.region.now in
    let marks : length c.args.inside.now ≡ area.cols =
    told_all (λ col. lies_inside grid.spec area.outline col c.args.row) area c.args.inside.now c.requires.inside in
    let all : c.loop-index.index ≡ area.cols = omega (arith, marks, c.loop-index-test.false, c.loop-index.auto.index-end) in
    row_ends grid c.args.layers.now.measured.now area c.args.row c.loop-index.index c.args.self c.loop-index.sums all
    c.loop-index.invariant.value

pub returns-clause-room : goal.returns-clause-room
returns-clause-room c = λ left room.
    let area = c.args.region.now in
    let marks : length c.args.inside.now ≡ area.cols =
    told_all (λ col. lies_inside c.args.layers.now.grid.now.spec area.outline col c.args.row) area c.args.inside.now c.requires.inside in
    let done : left + (area.cols - c.loop-index.index) ≡ left = omega (arith, marks, c.loop-index-test.false) in
    subst (λ (n : ℕ). HasRoom c.loop-index.sums n) done (c.loop-index.invariant.room left room)
