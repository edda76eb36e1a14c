use Rattle.std.proofs.lemmas.Result.{err_from_is_err_and}
use Rattle.serde_json.specs.View.{view}
use Rattle.sgm_calib.proofs.Numbers.{meshed}
use Rattle.sgm_calib.proofs.warps.mesh_shape.Goals as goal

pub shape_at-requires-clause-step : goal.shape_at-requires-clause-step
shape_at-requires-clause-step c =
    (meshed c.args.place (view c.args.side.now) c.in_ok-check_numbers.ensures.ok).step

pub shape_at-requires-clause-cols : goal.shape_at-requires-clause-cols
shape_at-requires-clause-cols c =
    (meshed c.args.place (view c.args.side.now) c.in_ok-check_numbers.ensures.ok).cols

pub shape_at-requires-clause-rows : goal.shape_at-requires-clause-rows
shape_at-requires-clause-rows c =
    (meshed c.args.place (view c.args.side.now) c.in_ok-check_numbers.ensures.ok).rows

pub returns-clause-ok : goal.returns-clause-ok
returns-clause-ok c = c.in_ok-check_numbers.ensures.ok

pub returns-in_err-check_numbers-clause-fault : goal.returns-in_err-check_numbers-clause-fault
returns-in_err-check_numbers-clause-fault c =
    let p = err_from_is_err_and c.from_residual.result c.from_residual.ensures.1 in
    rw (p.1, p.2) c.in_err-check_numbers.ensures.fault
