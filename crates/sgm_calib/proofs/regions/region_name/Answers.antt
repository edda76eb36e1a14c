use Rattle.std.proofs.Common.{true, false, Some, ap, sym, ◌∙◌}
use Rattle.std.proofs.lemmas.Result.{err_from_is_err_and}
use Rattle.serde_json.specs.View.{view}
use Rattle.sgm_report.specs.Areas.{is_region_name}
use Rattle.sgm_calib.specs.declared.keys.CalibFault.TheVariants.{Range}
use Rattle.sgm_calib.specs.Table as table
use Rattle.sgm_calib.proofs.KeyLemmas.{text-tested, text-wrong}
use Rattle.sgm_calib.proofs.regions.region_name.Goals as goal

pub returns-in_err-name-clause-fault : goal.returns-in_err-name-clause-fault
returns-in_err-name-clause-fault c =
    let p = err_from_is_err_and c.from_residual.result c.from_residual.ensures.1 in
    rw (p.1, p.2) (text-wrong is_region_name c.args.place (view c.args.object.now) table.region_name _ c.in_err-name.ensures.fault)

pub returns-then-is_region_name-clause-ok : goal.returns-then-is_region_name-clause-ok
returns-then-is_region_name-clause-ok c =
    text-tested is_region_name c.args.place (view c.args.object.now) table.region_name _ true c.in_ok-name.ensures.ok c.if-is_region_name.ensures

pub returns-else-is_region_name-clause-fault : goal.returns-else-is_region_name-clause-fault
returns-else-is_region_name-clause-fault c =
    text-tested is_region_name c.args.place (view c.args.object.now) table.region_name _ false c.in_ok-name.ensures.ok c.if-is_region_name.ensures
    ∙ ap (λ key. Some (Range key)) (sym c.key_at.ensures)
