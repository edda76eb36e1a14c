use Rattle.std.proofs.lemmas.Result.{err_from_is_err_and}
use Rattle.sgm_calib.proofs.sections.camera_of.Goals as goal

pub returns-in_err-check_numbers-clause-fault : goal.returns-in_err-check_numbers-clause-fault
returns-in_err-check_numbers-clause-fault c =
    let p = err_from_is_err_and c.from_residual.result c.from_residual.ensures.1 in
    rw (p.1, p.2) c.in_err-check_numbers.ensures.fault

pub returns-clause-ok : goal.returns-clause-ok
returns-clause-ok c = c.in_ok-check_numbers.ensures.ok
