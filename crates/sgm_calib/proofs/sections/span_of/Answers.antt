use Rattle.std.proofs.Common.{[], ◌∷◌, sym, ap, ◌∙◌}
use Rattle.std.proofs.lemmas.Result.{err_from_is_err_and}
use Rattle.std.specs.Result.{result_err}
use Rattle.serde_json.specs.View.{view}
use Rattle.sgm_calib.specs.declared.place.TheConstants.{PLAIN}
use Rattle.sgm_calib.specs.Table as table
use Rattle.sgm_calib.specs.Table.{given_rows}
use Rattle.sgm_calib.specs.Checks.{keys_fault}
use Rattle.sgm_calib.proofs.KeyLemmas.{fault-here, fault-later}
use Rattle.sgm_calib.proofs.Objects.{rows_in-disparities}
use Rattle.sgm_calib.proofs.sections.span_of.Goals as goal

pub returns-in_err-first-clause-fault : goal.returns-in_err-first-clause-fault
returns-in_err-first-clause-fault c =
    let d = view c.args.object.now in
    let later = given_rows c.args.sort (table.fine ∷ []) in
    let p = err_from_is_err_and c.from_residual.result c.from_residual.ensures.1 in
    rw (p.1, p.2) (
    ap (keys_fault PLAIN d) (rows_in-disparities c.args.sort) ∙
    fault-here PLAIN d table.first (table.count ∷ later) _ (ap result_err (sym c.in_err-first.ensures.exact)))

pub returns-in_err-count-clause-fault : goal.returns-in_err-count-clause-fault
returns-in_err-count-clause-fault c =
    let d = view c.args.object.now in
    let later = given_rows c.args.sort (table.fine ∷ []) in
    let p = err_from_is_err_and c.from_residual-in_err-count.result c.from_residual-in_err-count.ensures.1 in
    rw (p.1, p.2) (
    ap (keys_fault PLAIN d) (rows_in-disparities c.args.sort) ∙
    fault-later PLAIN d table.first (table.count ∷ later) (ap result_err (sym c.in_ok-first.ensures.exact)) ∙
    fault-here PLAIN d table.count later _ (ap result_err (sym c.in_err-count.ensures.exact)))

pub returns-in_err-check_fine-clause-fault : goal.returns-in_err-check_fine-clause-fault
returns-in_err-check_fine-clause-fault c =
    let d = view c.args.object.now in
    let later = given_rows c.args.sort (table.fine ∷ []) in
    let p = err_from_is_err_and c.from_residual-in_err-check_fine.result c.from_residual-in_err-check_fine.ensures.1 in
    rw (p.1, p.2) (
    ap (keys_fault PLAIN d) (rows_in-disparities c.args.sort) ∙
    fault-later PLAIN d table.first (table.count ∷ later) (ap result_err (sym c.in_ok-first.ensures.exact)) ∙
    fault-later PLAIN d table.count later (ap result_err (sym c.in_ok-count.ensures.exact)) ∙
    c.in_err-check_fine.ensures.fault)

pub returns-clause-ok : goal.returns-clause-ok
returns-clause-ok c =
    let d = view c.args.object.now in
    let later = given_rows c.args.sort (table.fine ∷ []) in
    ap (keys_fault PLAIN d) (rows_in-disparities c.args.sort)
    ∙ fault-later PLAIN d table.first (table.count ∷ later) (ap result_err (sym c.in_ok-first.ensures.exact))
    ∙ fault-later PLAIN d table.count later (ap result_err (sym c.in_ok-count.ensures.exact))
    ∙ c.in_ok-check_fine.ensures.ok
