use Rattle.sgm_list.specs.Names.{names_reading}
use Rattle.sgm_stages.proofs.Planning.{planned, stop_calib, stop_grid, stop_names}
use Rattle.sgm_stages.proofs.Steps.{handed_on}
use Rattle.sgm_stages.proofs.merge_plan.plan_merge.Goals as goal

pub returns-in_err-names-clause-plan : goal.returns-in_err-names-clause-plan
returns-in_err-names-clause-plan c = λ calib reads.
    handed_on _ _ c.from_residual.result c.in_err-names.field-0.0 c.from_residual.ensures.1
    (stop_names (names_reading c.args.out.now c.args.list.now) calib c.in_err-names.field-0.0 c.in_err-names.ensures.reading)

pub returns-in_err-calib-clause-plan : goal.returns-in_err-calib-clause-plan
returns-in_err-calib-clause-plan c = λ calib reads.
    handed_on _ _ c.from_residual-in_err-calib.result c.in_err-calib.field-0.0 c.from_residual-in_err-calib.ensures.1
    (stop_calib (names_reading c.args.out.now c.args.list.now) calib _ c.in_err-calib.field-0.0 c.in_ok-names.ensures.reading (c.in_err-calib.ensures calib reads))

pub returns-in_err-spec-clause-plan : goal.returns-in_err-spec-clause-plan
returns-in_err-spec-clause-plan c = λ calib reads.
    handed_on _ _ c.from_residual-in_err-spec.result c.in_err-spec.field-0.0 c.from_residual-in_err-spec.ensures.1
    (stop_grid (names_reading c.args.out.now c.args.list.now) calib _ _ c.in_err-spec.field-0.0 c.in_ok-names.ensures.reading (c.in_ok-calib.ensures calib reads) c.in_err-spec.ensures)

pub returns-clause-plan : goal.returns-clause-plan
returns-clause-plan c = λ calib reads.
    planned (names_reading c.args.out.now c.args.list.now) calib _ _ _ c.in_ok-names.ensures.reading (c.in_ok-calib.ensures calib reads) c.in_ok-spec.ensures.0
