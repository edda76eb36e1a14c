use Rattle.sgm_text.proofs.Beginnings.{err_after, on_err, starts_on, starts_with}
use Rattle.sgm_grid.proofs.text.append_head.Goals as goal

pub returns-clause-err : goal.returns-clause-err
returns-clause-err c =
    err_after c.append_cell.result c.args.into.now.items _ _ _ c.in_ok-append_size.ensures.ok
    (err_after c.append_cell.result _ _ _ _ c.in_ok-append_corner.ensures.ok c.append_cell.ensures.err)

pub returns-in_err-append_corner-clause-err : goal.returns-in_err-append_corner-clause-err
returns-in_err-append_corner-clause-err c =
    on_err c.from_residual-in_err-append_corner.result
    (starts_on _ _ _ (starts_with _ _ _ c.in_ok-append_size.ensures.ok) c.in_err-append_corner.ensures.err)
