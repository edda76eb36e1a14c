use Rattle.std.proofs.Common.{true, false, ◌∙◌, rules, pos, neg_ℤ}
use Rattle.std.proofs.lemmas.Result.{err_from_is_err_and}
use Rattle.sgm_base.specs.declared.limits.TheConstants.{MAX_GRID_LINES}
use Rattle.sgm_grid.specs.declared.limits.TheConstants.{MAX_PLACE, MAX_CELL, NO_HEIGHT}
use Rattle.sgm_grid.specs.Head.{first_out}
use Rattle.sgm_grid.proofs.HeadLaws.{out_here, out_past, real_test, stays, whole_lines, lines}
use Rattle.sgm_grid.proofs.head.spec_of.Goals as goal

pub returns-in_err-cols-clause-err : goal.returns-in_err-cols-clause-err
unfolding first_out
returns-in_err-cols-clause-err c =
    let p = err_from_is_err_and c.from_residual.result c.from_residual.ensures.1 in
    rw (p.1, p.2) (1, c.in_err-cols.ensures.err.0, out_here (pos 1) (pos MAX_GRID_LINES) c.args.numbers.cols 1 _ (real_test (pos 1) (pos MAX_GRID_LINES) c.args.numbers.cols false (search rules) c.in_err-cols.ensures.err.1))

pub returns-in_err-rows-clause-err : goal.returns-in_err-rows-clause-err
unfolding first_out
returns-in_err-rows-clause-err c =
    let p = err_from_is_err_and c.from_residual-in_err-rows.result c.from_residual-in_err-rows.ensures.1 in
    rw (p.1, p.2) (3, c.in_err-rows.ensures.err.0, (out_past (pos 1) (pos MAX_GRID_LINES) c.args.numbers.cols 1 _ (real_test (pos 1) (pos MAX_GRID_LINES) c.args.numbers.cols true (search rules) c.in_ok-cols.ensures.ok.1)) ∙ out_here (pos 1) (pos MAX_GRID_LINES) c.args.numbers.rows 3 _ (real_test (pos 1) (pos MAX_GRID_LINES) c.args.numbers.rows false (search rules) c.in_err-rows.ensures.err.1))

pub returns-in_err-west-clause-err : goal.returns-in_err-west-clause-err
unfolding first_out
returns-in_err-west-clause-err c =
    let p = err_from_is_err_and c.from_residual-in_err-west.result c.from_residual-in_err-west.ensures.1 in
    rw (p.1, p.2) (5, c.in_err-west.ensures.err.0, (out_past (pos 1) (pos MAX_GRID_LINES) c.args.numbers.cols 1 _ (real_test (pos 1) (pos MAX_GRID_LINES) c.args.numbers.cols true (search rules) c.in_ok-cols.ensures.ok.1)) ∙ (out_past (pos 1) (pos MAX_GRID_LINES) c.args.numbers.rows 3 _ (real_test (pos 1) (pos MAX_GRID_LINES) c.args.numbers.rows true (search rules) c.in_ok-rows.ensures.ok.1)) ∙ out_here (neg_ℤ MAX_PLACE) MAX_PLACE c.args.numbers.west 5 _ (real_test (neg_ℤ MAX_PLACE) MAX_PLACE c.args.numbers.west false (search rules) c.in_err-west.ensures.err.1))

pub returns-in_err-south-clause-err : goal.returns-in_err-south-clause-err
unfolding first_out
returns-in_err-south-clause-err c =
    let p = err_from_is_err_and c.from_residual-in_err-south.result c.from_residual-in_err-south.ensures.1 in
    rw (p.1, p.2) (7, c.in_err-south.ensures.err.0, (out_past (pos 1) (pos MAX_GRID_LINES) c.args.numbers.cols 1 _ (real_test (pos 1) (pos MAX_GRID_LINES) c.args.numbers.cols true (search rules) c.in_ok-cols.ensures.ok.1)) ∙ (out_past (pos 1) (pos MAX_GRID_LINES) c.args.numbers.rows 3 _ (real_test (pos 1) (pos MAX_GRID_LINES) c.args.numbers.rows true (search rules) c.in_ok-rows.ensures.ok.1)) ∙ (out_past (neg_ℤ MAX_PLACE) MAX_PLACE c.args.numbers.west 5 _ (real_test (neg_ℤ MAX_PLACE) MAX_PLACE c.args.numbers.west true (search rules) c.in_ok-west.ensures.ok.1)) ∙ out_here (neg_ℤ MAX_PLACE) MAX_PLACE c.args.numbers.south 7 _ (real_test (neg_ℤ MAX_PLACE) MAX_PLACE c.args.numbers.south false (search rules) c.in_err-south.ensures.err.1))

pub returns-in_err-cell-clause-err : goal.returns-in_err-cell-clause-err
unfolding first_out
returns-in_err-cell-clause-err c =
    let p = err_from_is_err_and c.from_residual-in_err-cell.result c.from_residual-in_err-cell.ensures.1 in
    rw (p.1, p.2) (9, c.in_err-cell.ensures.err.0, (out_past (pos 1) (pos MAX_GRID_LINES) c.args.numbers.cols 1 _ (real_test (pos 1) (pos MAX_GRID_LINES) c.args.numbers.cols true (search rules) c.in_ok-cols.ensures.ok.1)) ∙ (out_past (pos 1) (pos MAX_GRID_LINES) c.args.numbers.rows 3 _ (real_test (pos 1) (pos MAX_GRID_LINES) c.args.numbers.rows true (search rules) c.in_ok-rows.ensures.ok.1)) ∙ (out_past (neg_ℤ MAX_PLACE) MAX_PLACE c.args.numbers.west 5 _ (real_test (neg_ℤ MAX_PLACE) MAX_PLACE c.args.numbers.west true (search rules) c.in_ok-west.ensures.ok.1)) ∙ (out_past (neg_ℤ MAX_PLACE) MAX_PLACE c.args.numbers.south 7 _ (real_test (neg_ℤ MAX_PLACE) MAX_PLACE c.args.numbers.south true (search rules) c.in_ok-south.ensures.ok.1)) ∙ out_here (pos 1) MAX_CELL c.args.numbers.cell 9 _ (real_test (pos 1) MAX_CELL c.args.numbers.cell false (search rules) c.in_err-cell.ensures.err.1))

pub returns-in_err-in_range-clause-err : goal.returns-in_err-in_range-clause-err
unfolding first_out
returns-in_err-in_range-clause-err c =
    let p = err_from_is_err_and c.from_residual-in_err-in_range.result c.from_residual-in_err-in_range.ensures.1 in
    rw (p.1, p.2) (11, c.in_err-in_range.ensures.err.0, (out_past (pos 1) (pos MAX_GRID_LINES) c.args.numbers.cols 1 _ (real_test (pos 1) (pos MAX_GRID_LINES) c.args.numbers.cols true (search rules) c.in_ok-cols.ensures.ok.1)) ∙ (out_past (pos 1) (pos MAX_GRID_LINES) c.args.numbers.rows 3 _ (real_test (pos 1) (pos MAX_GRID_LINES) c.args.numbers.rows true (search rules) c.in_ok-rows.ensures.ok.1)) ∙ (out_past (neg_ℤ MAX_PLACE) MAX_PLACE c.args.numbers.west 5 _ (real_test (neg_ℤ MAX_PLACE) MAX_PLACE c.args.numbers.west true (search rules) c.in_ok-west.ensures.ok.1)) ∙ (out_past (neg_ℤ MAX_PLACE) MAX_PLACE c.args.numbers.south 7 _ (real_test (neg_ℤ MAX_PLACE) MAX_PLACE c.args.numbers.south true (search rules) c.in_ok-south.ensures.ok.1)) ∙ (out_past (pos 1) MAX_CELL c.args.numbers.cell 9 _ (real_test (pos 1) MAX_CELL c.args.numbers.cell true (search rules) c.in_ok-cell.ensures.ok.1)) ∙ out_here NO_HEIGHT NO_HEIGHT c.args.numbers.no_height 11 _ (real_test NO_HEIGHT NO_HEIGHT c.args.numbers.no_height false (search rules) c.in_err-in_range.ensures.err.1))

pub returns-clause-in_range : goal.returns-clause-in_range
unfolding first_out
returns-clause-in_range c =
    (out_past (pos 1) (pos MAX_GRID_LINES) c.args.numbers.cols 1 _ (real_test (pos 1) (pos MAX_GRID_LINES) c.args.numbers.cols true (search rules) c.in_ok-cols.ensures.ok.1))
    ∙ (out_past (pos 1) (pos MAX_GRID_LINES) c.args.numbers.rows 3 _ (real_test (pos 1) (pos MAX_GRID_LINES) c.args.numbers.rows true (search rules) c.in_ok-rows.ensures.ok.1))
    ∙ (out_past (neg_ℤ MAX_PLACE) MAX_PLACE c.args.numbers.west 5 _ (real_test (neg_ℤ MAX_PLACE) MAX_PLACE c.args.numbers.west true (search rules) c.in_ok-west.ensures.ok.1))
    ∙ (out_past (neg_ℤ MAX_PLACE) MAX_PLACE c.args.numbers.south 7 _ (real_test (neg_ℤ MAX_PLACE) MAX_PLACE c.args.numbers.south true (search rules) c.in_ok-south.ensures.ok.1))
    ∙ (out_past (pos 1) MAX_CELL c.args.numbers.cell 9 _ (real_test (pos 1) MAX_CELL c.args.numbers.cell true (search rules) c.in_ok-cell.ensures.ok.1))
    ∙ (out_past NO_HEIGHT NO_HEIGHT c.args.numbers.no_height 11 _ (real_test NO_HEIGHT NO_HEIGHT c.args.numbers.no_height true (search rules) c.in_ok-in_range.ensures.ok.1))

pub overflow_cast-result : goal.overflow_cast-result
overflow_cast-result c = whole_lines c.in_ok-cols.cols c.in_ok-cols.ensures.range

pub overflow_cast-result-2 : goal.overflow_cast-result-2
overflow_cast-result-2 c = whole_lines c.in_ok-rows.rows c.in_ok-rows.ensures.range

pub returns-clause-ranges : goal.returns-clause-ranges
returns-clause-ranges c = record {
  west_in_range = stays (neg_ℤ MAX_PLACE) MAX_PLACE c.in_ok-west.west c.in_ok-west.ensures.range (search rules);
  south_in_range = stays (neg_ℤ MAX_PLACE) MAX_PLACE c.in_ok-south.south c.in_ok-south.ensures.range (search rules);
  cell_in_range = stays (pos 1) MAX_CELL c.in_ok-cell.cell c.in_ok-cell.ensures.range (search rules);
  cols_in_range = lines c.in_ok-cols.cols c.in_ok-cols.ensures.range;
  rows_in_range = lines c.in_ok-rows.rows c.in_ok-rows.ensures.range;
}
