use Rattle.std.proofs.Common.{◌∙◌}
use Rattle.std.proofs.lemmas.Result.{err_from_is_err_and}
use Rattle.serde_json.specs.View.{view}
use Rattle.sgm_calib.specs.Checks.{sort_of}
use Rattle.sgm_calib.specs.Table as table
use Rattle.sgm_calib.proofs.KeyLemmas.{section_fault-held}
use Rattle.sgm_calib.proofs.Objects.{rows_in-pose}
use Rattle.sgm_calib.proofs.pose.pose.Goals as goal

pub returns-in_err-pose-in-Some-clause-fault : goal.returns-in_err-pose-in-Some-clause-fault
returns-in_err-pose-in-Some-clause-fault c =
    let p = err_from_is_err_and c.from_residual-in_err-pose-in-Some.result c.from_residual-in_err-pose-in-Some.ensures.1 in
    rw (p.1, p.2) (section_fault-held (view c.args.top.now) table.pose table.pose_keys c.in_ok-found.found c.in-Some.object c.in_ok-found.ensures.ok c.in_ok-found.ensures.there c.in-Some.is (rows_in-pose (sort_of (view c.args.top.now))) ∙ c.in_err-pose-in-Some.ensures.fault)

pub returns-in_ok-pose-in-Some-clause-ok : goal.returns-in_ok-pose-in-Some-clause-ok
returns-in_ok-pose-in-Some-clause-ok c = section_fault-held (view c.args.top.now) table.pose table.pose_keys c.in_ok-found.found c.in-Some.object c.in_ok-found.ensures.ok c.in_ok-found.ensures.there c.in-Some.is (rows_in-pose (sort_of (view c.args.top.now))) ∙ c.in_ok-pose-in-Some.ensures.ok
