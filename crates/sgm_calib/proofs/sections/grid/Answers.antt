use Rattle.std.proofs.Common.{ap, sym, ◌∙◌}
use Rattle.std.proofs.lemmas.Result.{err_from_is_err_and}
use Rattle.serde_json.specs.View.{view}
use Rattle.sgm_calib.specs.Table as table
use Rattle.sgm_calib.specs.Table.{rows_in}
use Rattle.sgm_calib.proofs.KeyLemmas.{section_fault-held, section_fault-itself}
use Rattle.sgm_calib.proofs.sections.grid.Goals as goal

pub returns-in_err-found-clause-fault : goal.returns-in_err-found-clause-fault
returns-in_err-found-clause-fault c =
    let p = err_from_is_err_and c.from_residual.result c.from_residual.ensures.1 in
    rw (p.1, p.2) (section_fault-itself (view c.args.top.now) table.grid _ c.in_err-found.ensures.fault)

pub returns-in_err-grid-in-Some-clause-fault : goal.returns-in_err-grid-in-Some-clause-fault
returns-in_err-grid-in-Some-clause-fault c =
    let p = err_from_is_err_and c.from_residual-in_err-grid-in-Some.result c.from_residual-in_err-grid-in-Some.ensures.1 in
    rw (p.1, p.2) (section_fault-held (view c.args.top.now) table.grid (rows_in table.grid c.sort_of.result) c.in_ok-found.found c.in-Some.object c.in_ok-found.ensures.ok c.in_ok-found.ensures.there c.in-Some.is (ap (rows_in table.grid) (sym c.sort_of.ensures)) ∙ c.in_err-grid-in-Some.ensures.fault)

pub returns-in_ok-grid-in-Some-clause-ok : goal.returns-in_ok-grid-in-Some-clause-ok
returns-in_ok-grid-in-Some-clause-ok c = section_fault-held (view c.args.top.now) table.grid (rows_in table.grid c.sort_of.result) c.in_ok-found.found c.in-Some.object c.in_ok-found.ensures.ok c.in_ok-found.ensures.there c.in-Some.is (ap (rows_in table.grid) (sym c.sort_of.ensures)) ∙ c.in_ok-grid-in-Some.ensures.ok
