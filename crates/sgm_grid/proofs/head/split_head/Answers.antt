use Rattle.std.proofs.Common.{[], pos, neg_ℤ}
use Rattle.std.proofs.lemmas.Result.{err_from_is_err_and}
use Rattle.sgm_base.specs.declared.limits.TheConstants.{MAX_GRID_LINES}
use Rattle.sgm_grid.specs.declared.limits.TheConstants.{MAX_PLACE, MAX_CELL, NO_HEIGHT}
use Rattle.sgm_grid.proofs.HeadLaws.{over_cols, over_rows, over_west, over_south, over_cell, after_cols, after_rows, after_west, after_south, after_cell}
use Rattle.sgm_grid.proofs.head.split_head.Goals as goal

pub returns-in_err-cols-clause-err : goal.returns-in_err-cols-clause-err
returns-in_err-cols-clause-err c =
    let p = err_from_is_err_and c.from_residual.result c.from_residual.ensures.1 in
    let fault = c.in_err-cols.field-0.0 in
    rw (p.1, p.2) (c.in_err-cols.ensures.err (pos 1) (pos MAX_GRID_LINES) after_cols)

pub returns-in_err-rows-clause-err : goal.returns-in_err-rows-clause-err
returns-in_err-rows-clause-err c =
    let p = err_from_is_err_and c.from_residual-in_err-rows.result c.from_residual-in_err-rows.ensures.1 in
    let fault = c.in_err-rows.field-0.0 in
    rw (p.1, p.2) (over_cols fault c.in_ok-cols.ensures.ok (c.in_err-rows.ensures.err (pos 1) (pos MAX_GRID_LINES) after_rows))

pub returns-in_err-west-clause-err : goal.returns-in_err-west-clause-err
returns-in_err-west-clause-err c =
    let p = err_from_is_err_and c.from_residual-in_err-west.result c.from_residual-in_err-west.ensures.1 in
    let fault = c.in_err-west.field-0.0 in
    rw (p.1, p.2) (over_cols fault c.in_ok-cols.ensures.ok (over_rows fault c.in_ok-rows.ensures.ok (c.in_err-west.ensures.err (neg_ℤ MAX_PLACE) MAX_PLACE after_west)))

pub returns-in_err-south-clause-err : goal.returns-in_err-south-clause-err
returns-in_err-south-clause-err c =
    let p = err_from_is_err_and c.from_residual-in_err-south.result c.from_residual-in_err-south.ensures.1 in
    let fault = c.in_err-south.field-0.0 in
    rw (p.1, p.2) (over_cols fault c.in_ok-cols.ensures.ok (over_rows fault c.in_ok-rows.ensures.ok (over_west fault c.in_ok-west.ensures.ok (c.in_err-south.ensures.err (neg_ℤ MAX_PLACE) MAX_PLACE after_south))))

pub returns-in_err-cell-clause-err : goal.returns-in_err-cell-clause-err
returns-in_err-cell-clause-err c =
    let p = err_from_is_err_and c.from_residual-in_err-cell.result c.from_residual-in_err-cell.ensures.1 in
    let fault = c.in_err-cell.field-0.0 in
    rw (p.1, p.2) (over_cols fault c.in_ok-cols.ensures.ok (over_rows fault c.in_ok-rows.ensures.ok (over_west fault c.in_ok-west.ensures.ok (over_south fault c.in_ok-south.ensures.ok (c.in_err-cell.ensures.err (pos 1) MAX_CELL after_cell)))))

pub returns-in_err-no_height-clause-err : goal.returns-in_err-no_height-clause-err
returns-in_err-no_height-clause-err c =
    let p = err_from_is_err_and c.from_residual-in_err-no_height.result c.from_residual-in_err-no_height.ensures.1 in
    let fault = c.in_err-no_height.field-0.0 in
    rw (p.1, p.2) (over_cols fault c.in_ok-cols.ensures.ok (over_rows fault c.in_ok-rows.ensures.ok (over_west fault c.in_ok-west.ensures.ok (over_south fault c.in_ok-south.ensures.ok (over_cell fault c.in_ok-cell.ensures.ok (c.in_err-no_height.ensures.err NO_HEIGHT NO_HEIGHT []))))))
