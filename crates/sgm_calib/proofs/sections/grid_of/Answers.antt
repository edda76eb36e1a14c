use Rattle.std.proofs.Common.{ap, subst, sym, ◌∙◌}
use Rattle.std.proofs.lemmas.Result.{err_from_is_err_and}
use Rattle.std.specs.Option.{option_or}
use Rattle.serde_json.specs.View.{view}
use Rattle.sgm_grid.specs.Cells.{IsGridSpec}
use Rattle.sgm_calib.specs.declared.place.TheConstants.{PLAIN}
use Rattle.sgm_calib.specs.Table as table
use Rattle.sgm_calib.specs.Table.{given_rows}
use Rattle.sgm_calib.specs.Checks.{keys_fault}
use Rattle.sgm_calib.proofs.KeyLemmas.{fault-behind}
use Rattle.sgm_calib.proofs.Numbers.{grid_kept, grid_lines}
use Rattle.sgm_calib.proofs.Objects.{rows_in-grid}
use Rattle.sgm_calib.proofs.sections.grid_of.Goals as goal

pub grid_at-requires-clause-cols : goal.grid_at-requires-clause-cols
grid_at-requires-clause-cols c = (grid_lines (view c.args.object.now) c.in_ok-check_numbers.ensures.ok).0

pub grid_at-requires-clause-rows : goal.grid_at-requires-clause-rows
grid_at-requires-clause-rows c = (grid_lines (view c.args.object.now) c.in_ok-check_numbers.ensures.ok).1

pub returns-in_err-check_numbers-clause-fault : goal.returns-in_err-check_numbers-clause-fault
returns-in_err-check_numbers-clause-fault c =
    let d = view c.args.object.now in
    let p = err_from_is_err_and c.from_residual.result c.from_residual.ensures.1 in
    rw (p.1, p.2) (
    ap (keys_fault PLAIN d) (rows_in-grid c.args.sort)
    ∙ fault-behind PLAIN d table.place_keys (given_rows c.args.sort table.gridding_keys)
    ∙ ap (λ found. option_or found (keys_fault PLAIN d (given_rows c.args.sort table.gridding_keys))) c.in_err-check_numbers.ensures.fault)

pub returns-in_err-check_gridding-clause-fault : goal.returns-in_err-check_gridding-clause-fault
returns-in_err-check_gridding-clause-fault c =
    let d = view c.args.object.now in
    let p = err_from_is_err_and c.from_residual-in_err-check_gridding.result c.from_residual-in_err-check_gridding.ensures.1 in
    rw (p.1, p.2) (
    ap (keys_fault PLAIN d) (rows_in-grid c.args.sort)
    ∙ fault-behind PLAIN d table.place_keys (given_rows c.args.sort table.gridding_keys)
    ∙ ap (λ found. option_or found (keys_fault PLAIN d (given_rows c.args.sort table.gridding_keys))) c.in_ok-check_numbers.ensures.ok
    ∙ c.in_err-check_gridding.ensures.fault)

pub returns-clause-ok : goal.returns-clause-ok
returns-clause-ok c =
    let d = view c.args.object.now in
    ap (keys_fault PLAIN d) (rows_in-grid c.args.sort)
    ∙ fault-behind PLAIN d table.place_keys (given_rows c.args.sort table.gridding_keys)
    ∙ ap (λ found. option_or found (keys_fault PLAIN d (given_rows c.args.sort table.gridding_keys))) c.in_ok-check_numbers.ensures.ok
    ∙ c.in_ok-check_gridding.ensures.ok

pub returns-clause-kept : goal.returns-clause-kept
returns-clause-kept c = subst IsGridSpec (sym c.grid_at.ensures) (grid_kept (view c.args.object.now) c.in_ok-check_numbers.ensures.ok)
