use Rattle.std.proofs.Common.{◌∙◌, ap, arith, length, subst, sym}
use Rattle.std.specs.Prelude.{IfSome}
use Rattle.std.specs.List.{filter_map}
use Rattle.sgm_grid.specs.Placing.{placed}
use Rattle.sgm_ground.specs.Heights.{IsPlacedRow}
use Rattle.sgm_ground.proofs.Places.{if_ok_three}
use Rattle.sgm_ground.proofs.Pointing.{row_points}
use Rattle.sgm_ground.proofs.placing.row_at.Goals as goal

pub returns : goal.returns
returns c =
    let shown = c.args.shown.now in
    let row = c.row-row.result.now in
    let wide = c.row-row.ensures.whole in
    let points = row_points shown.station.now shown.span.first shown.map.now c.args.y (length row) row c.requires c.row-row.ensures.value wide in
    subst (λ o. IfSome o (λ places. IsPlacedRow shown.station.now shown.spec shown.span.first shown.map.now c.args.y places.items)) (sym c.ok.ensures.value)
    (if_ok_three c.place_row.result
    (λ places exact within few. record { exact = exact ∙ ap (filter_map (placed shown.spec)) points; within = within; few = omega (arith, few, wide) })
    c.place_row.ensures.exact c.place_row.ensures.within c.place_row.ensures.few)
