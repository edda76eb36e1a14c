use Rattle.sgm_text.proofs.Beginnings.{on_err, starts_more, starts_on}
use Rattle.sgm_grid.proofs.Rows.{rows_more}
use Rattle.sgm_grid.proofs.text.append_rows.Goals as goal

pub loop-row-preserved : goal.loop-row-preserved
loop-row-preserved c = record {
  so_far = rows_more c.args.grid.now c.loop-row.row c.args.into.now.items c.loop-row.into.items c.append_row.new.into.items c.row.result.now c.row.ensures.value c.loop-row.invariant.so_far c.in_ok-append_row.ensures.ok;
  starts = starts_more c.args.into.now.items c.loop-row.into.items c.append_row.new.into.items _ c.loop-row.invariant.starts c.in_ok-append_row.ensures.ok;
}

pub returns-in_err-append_row-clause-err : goal.returns-in_err-append_row-clause-err
returns-in_err-append_row-clause-err c =
    on_err c.from_residual.result
    (starts_on c.args.into.now.items c.loop-row.into.items c.append_row.new.into.items c.loop-row.invariant.starts c.in_err-append_row.ensures.err)
