use Rattle.std.proofs.Common.{◌≡◌, Option, Some, None, IfErr, OnOk, subst, sym}
use Rattle.std.proofs.lemmas.Result.{err_from_is_err_and}
use Rattle.serde_json.specs.View.{view}
use Rattle.sgm_calib.specs.Checks.{sort_of}
use Rattle.sgm_calib.specs.declared.keys.CalibFault.{CalibFault}
use Rattle.sgm_calib.specs.Table as table
use Rattle.sgm_calib.proofs.KeyLemmas.{section_fault-held, section_fault-itself}
use Rattle.sgm_calib.proofs.Objects.{rows_in-census}
use Rattle.sgm_calib.proofs.sections.census.Goals as goal

pub returns-in_err-found-clause-fault : goal.returns-in_err-found-clause-fault
returns-in_err-found-clause-fault c =
    let p = err_from_is_err_and c.from_residual.result c.from_residual.ensures.1 in
    rw (p.1, p.2) (section_fault-itself (view c.args.top.now) table.census _ c.in_err-found.ensures.fault)

pub returns-clause-ok : goal.returns-clause-ok
returns-clause-ok c =
    subst (λ (fault : Option CalibFault). OnOk c.window_of.result (fault ≡ None)) (sym (section_fault-held (view c.args.top.now) table.census table.census_keys c.in_ok-found.found c.in-Some.object c.in_ok-found.ensures.ok c.in_ok-found.ensures.there c.in-Some.is (rows_in-census (sort_of (view c.args.top.now))))) c.window_of.ensures.ok

pub returns-clause-fault : goal.returns-clause-fault
returns-clause-fault c =
    subst (λ (fault : Option CalibFault). IfErr c.window_of.result (λ f. fault ≡ Some f)) (sym (section_fault-held (view c.args.top.now) table.census table.census_keys c.in_ok-found.found c.in-Some.object c.in_ok-found.ensures.ok c.in_ok-found.ensures.there c.in-Some.is (rows_in-census (sort_of (view c.args.top.now))))) c.window_of.ensures.fault
