use Rattle.std.proofs.Common.{◌≡◌, true, sym, ◌∙◌}
use Rattle.std.proofs.lemmas.Result.{err_from_is_err_and}
use Rattle.serde_json.specs.View.{view}
use Rattle.sgm_calib.specs.Checks.{keys_fault}
use Rattle.sgm_calib.specs.Rows.{is_since}
use Rattle.sgm_calib.specs.Table.{rise_keys}
use Rattle.sgm_calib.proofs.RegionLemmas.{when}
use Rattle.sgm_calib.proofs.regions.check_rises.Goals as goal

pub returns-in_err-check_numbers-clause-fault : goal.returns-in_err-check_numbers-clause-fault
returns-in_err-check_numbers-clause-fault c =
    let since : is_since 3 c.args.sort ≡ true = sym c.is_since.ensures ∙ c.if-is_since.true in
    let p = err_from_is_err_and c.from_residual.result c.from_residual.ensures.1 in
    rw (p.1, p.2) (when _ (keys_fault c.args.place (view c.args.object.now) rise_keys) since ∙ c.in_err-check_numbers.ensures.fault)

pub returns-in_ok-check_numbers-clause-ok : goal.returns-in_ok-check_numbers-clause-ok
returns-in_ok-check_numbers-clause-ok c =
    let since : is_since 3 c.args.sort ≡ true = sym c.is_since.ensures ∙ c.if-is_since.true in
    when _ (keys_fault c.args.place (view c.args.object.now) rise_keys) since ∙ c.in_ok-check_numbers.ensures.ok
