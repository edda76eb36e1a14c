use Rattle.std.proofs.Common.{subst, sym, ◌∙◌}
use Rattle.std.proofs.lemmas.Result.{err_from_is_err_and}
use Rattle.serde_json.specs.View.{view}
use Rattle.sgm_height.specs.Camera.{IsCamera}
use Rattle.sgm_calib.specs.Checks.{sort_of}
use Rattle.sgm_calib.specs.Table as table
use Rattle.sgm_calib.proofs.KeyLemmas.{section_fault-held, section_fault-itself}
use Rattle.sgm_calib.proofs.Numbers.{camera_kept}
use Rattle.sgm_calib.proofs.Objects.{rows_in-camera}
use Rattle.sgm_calib.proofs.sections.camera.Goals as goal

pub returns-in_err-found-clause-fault : goal.returns-in_err-found-clause-fault
returns-in_err-found-clause-fault c =
    let p = err_from_is_err_and c.from_residual.result c.from_residual.ensures.1 in
    rw (p.1, p.2) (section_fault-itself (view c.args.top.now) table.camera _ c.in_err-found.ensures.fault)

pub returns-in_err-camera-in-Some-clause-fault : goal.returns-in_err-camera-in-Some-clause-fault
returns-in_err-camera-in-Some-clause-fault c =
    let p = err_from_is_err_and c.from_residual-in_err-camera-in-Some.result c.from_residual-in_err-camera-in-Some.ensures.1 in
    rw (p.1, p.2) (section_fault-held (view c.args.top.now) table.camera table.camera_keys c.in_ok-found.found c.in-Some.object c.in_ok-found.ensures.ok c.in_ok-found.ensures.there c.in-Some.is (rows_in-camera (sort_of (view c.args.top.now))) ∙ c.in_err-camera-in-Some.ensures.fault)

pub returns-in_ok-camera-in-Some-clause-ok : goal.returns-in_ok-camera-in-Some-clause-ok
returns-in_ok-camera-in-Some-clause-ok c = section_fault-held (view c.args.top.now) table.camera table.camera_keys c.in_ok-found.found c.in-Some.object c.in_ok-found.ensures.ok c.in_ok-found.ensures.there c.in-Some.is (rows_in-camera (sort_of (view c.args.top.now))) ∙ c.in_ok-camera-in-Some.ensures.ok

pub returns-in_ok-camera-in-Some-clause-kept : goal.returns-in_ok-camera-in-Some-clause-kept
returns-in_ok-camera-in-Some-clause-kept c =
    subst IsCamera (sym c.in_ok-camera-in-Some.ensures.value) (camera_kept (view c.in-Some.object.now) c.in_ok-camera-in-Some.ensures.ok)
