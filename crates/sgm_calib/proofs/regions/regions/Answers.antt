use Rattle.std.proofs.Common.{Option, Some, ap, sym, subst, ◌∙◌}
use Rattle.std.proofs.lemmas.Result.{err_from_is_err_and}
use Rattle.serde_json.specs.View.{view}
use Rattle.sgm_calib.specs.declared.keys.CalibFault.{CalibFault}
use Rattle.sgm_calib.specs.declared.sort.Sort.{Sort}
use Rattle.sgm_calib.specs.Checks.{IsFaultOf}
use Rattle.sgm_calib.specs.RegionKeys.{regions_fault_of}
use Rattle.sgm_calib.proofs.RegionLemmas.{regions_fault-there}
use Rattle.sgm_calib.proofs.regions.regions.Goals as goal

pub returns-in_err-regions-clause-fault : goal.returns-in_err-regions-clause-fault
returns-in_err-regions-clause-fault c =
    let list = view c.in-Some.list.now in
    let there =
    regions_fault-there (view c.args.top.now) list c.in-Some-grid.grid (sym c.in-Some-grid.is ∙ c.requires.value) c.in-Some.ensures
    ∙ ap (λ (sort : Sort). regions_fault_of sort c.in-Some-grid.grid (Some list)) (sym c.sort_of.ensures) in
    let p = err_from_is_err_and c.from_residual.result c.from_residual.ensures.1 in
    rw (p.1, p.2) (subst (λ (fault : Option CalibFault). IsFaultOf fault c.in_err-regions.field-0.0) (sym there) c.in_err-regions.ensures.fault)

pub returns-clause-ok : goal.returns-clause-ok
returns-clause-ok c =
    let list = view c.in-Some.list.now in
    regions_fault-there (view c.args.top.now) list c.in-Some-grid.grid (sym c.in-Some-grid.is ∙ c.requires.value) c.in-Some.ensures
    ∙ ap (λ (sort : Sort). regions_fault_of sort c.in-Some-grid.grid (Some list)) (sym c.sort_of.ensures)
    ∙ c.in_ok-regions.ensures.ok
