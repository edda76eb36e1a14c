use Rattle.std.proofs.Common.{◌≤◌, arith}
use Rattle.std.proofs.lemmas.Result.{err_from_is_err_and}
use Rattle.serde_json.specs.View.{view}
use Rattle.sgm_calib.proofs.KeyLemmas.{lines_inside}
use Rattle.sgm_calib.proofs.Numbers.{placed, col_counted, row_counted, cols_counted, rows_counted}
use Rattle.sgm_calib.proofs.RegionLemmas.{based, both-pass, first-fails, later-fails}
use Rattle.sgm_calib.proofs.regions.region_numbers.Goals as goal

pub cells_at-requires-clause-col : goal.cells_at-requires-clause-col
cells_at-requires-clause-col c =
    let small : c.args.place.cols ≤ 4294967295 = omega arith in
    col_counted c.args.place (view c.args.object.now) (placed c.args.place (view c.args.object.now) c.in_ok-check_numbers.ensures.ok) small

pub cells_at-requires-clause-row : goal.cells_at-requires-clause-row
cells_at-requires-clause-row c =
    let small : c.args.place.rows ≤ 4294967295 = omega arith in
    row_counted c.args.place (view c.args.object.now) (placed c.args.place (view c.args.object.now) c.in_ok-check_numbers.ensures.ok) small

pub cells_at-requires-clause-cols : goal.cells_at-requires-clause-cols
cells_at-requires-clause-cols c =
    let small : c.args.place.cols ≤ 4294967295 = omega arith in
    cols_counted c.args.place (view c.args.object.now) (placed c.args.place (view c.args.object.now) c.in_ok-check_numbers.ensures.ok) small

pub cells_at-requires-clause-rows : goal.cells_at-requires-clause-rows
cells_at-requires-clause-rows c =
    let small : c.args.place.rows ≤ 4294967295 = omega arith in
    rows_counted c.args.place (view c.args.object.now) (placed c.args.place (view c.args.object.now) c.in_ok-check_numbers.ensures.ok) small

pub returns-clause-ok : goal.returns-clause-ok
returns-clause-ok c = both-pass _ _ c.in_ok-check_numbers.ensures.ok c.in_ok-check_rises.ensures.ok

pub returns-clause-inside : goal.returns-clause-inside
returns-clause-inside c =
    let p = placed c.args.place (view c.args.object.now) c.in_ok-check_numbers.ensures.ok in
    let wide = lines_inside _ _ c.args.place.cols p.col p.cols p.cols_left in
    let high = lines_inside _ _ c.args.place.rows p.row p.rows p.rows_left in
    rw c.cells_at.ensures (wide.0, high.0, wide.1, high.1)

pub returns-clause-based : goal.returns-clause-based
returns-clause-based c =
    let d = view c.args.object.now in
    let p = placed c.args.place d c.in_ok-check_numbers.ensures.ok in
    rw c.cells_at.ensures (based c.args.sort c.args.place d p.base c.in_ok-check_rises.ensures.ok)

pub returns-in_err-check_numbers-clause-fault : goal.returns-in_err-check_numbers-clause-fault
returns-in_err-check_numbers-clause-fault c =
    let p = err_from_is_err_and c.from_residual.result c.from_residual.ensures.1 in
    rw (p.1, p.2) (first-fails _ _ _ c.in_err-check_numbers.ensures.fault)

pub returns-in_err-check_rises-clause-fault : goal.returns-in_err-check_rises-clause-fault
returns-in_err-check_rises-clause-fault c =
    let p = err_from_is_err_and c.from_residual-in_err-check_rises.result c.from_residual-in_err-check_rises.ensures.1 in
    rw (p.1, p.2) (later-fails _ _ _ c.in_ok-check_numbers.ensures.ok c.in_err-check_rises.ensures.fault)
