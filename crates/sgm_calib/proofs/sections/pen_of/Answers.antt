use Rattle.std.proofs.Common.{[], ◌∷◌, sym, ap, ◌∙◌}
use Rattle.std.proofs.lemmas.Result.{err_from_is_err_and}
use Rattle.std.specs.Result.{result_err}
use Rattle.serde_json.specs.View.{view}
use Rattle.sgm_calib.specs.declared.place.TheConstants.{PLAIN}
use Rattle.sgm_calib.specs.Table as table
use Rattle.sgm_calib.specs.Table.{given_rows}
use Rattle.sgm_calib.specs.Checks.{keys_fault}
use Rattle.sgm_calib.proofs.KeyLemmas.{fault-here, fault-later}
use Rattle.sgm_calib.proofs.Objects.{rows_in-penalties}
use Rattle.sgm_calib.proofs.sections.pen_of.Goals as goal

pub returns-in_err-p1-clause-fault : goal.returns-in_err-p1-clause-fault
returns-in_err-p1-clause-fault c =
    let d = view c.args.object.now in
    let later = given_rows c.args.sort (table.adapt ∷ []) in
    let p = err_from_is_err_and c.from_residual.result c.from_residual.ensures.1 in
    rw (p.1, p.2) (
    ap (keys_fault PLAIN d) (rows_in-penalties c.args.sort) ∙
    fault-here PLAIN d table.p1 (table.p2 ∷ later) _ (ap result_err (sym c.in_err-p1.ensures.exact)))

pub returns-in_err-p2-clause-fault : goal.returns-in_err-p2-clause-fault
returns-in_err-p2-clause-fault c =
    let d = view c.args.object.now in
    let later = given_rows c.args.sort (table.adapt ∷ []) in
    let p = err_from_is_err_and c.from_residual-in_err-p2.result c.from_residual-in_err-p2.ensures.1 in
    rw (p.1, p.2) (
    ap (keys_fault PLAIN d) (rows_in-penalties c.args.sort) ∙
    fault-later PLAIN d table.p1 (table.p2 ∷ later) (ap result_err (sym c.in_ok-p1.ensures.exact)) ∙
    fault-here PLAIN d table.p2 later _ (ap result_err (sym c.in_err-p2.ensures.exact)))

pub returns-in_err-check_adapt-clause-fault : goal.returns-in_err-check_adapt-clause-fault
returns-in_err-check_adapt-clause-fault c =
    let d = view c.args.object.now in
    let later = given_rows c.args.sort (table.adapt ∷ []) in
    let p = err_from_is_err_and c.from_residual-in_err-check_adapt.result c.from_residual-in_err-check_adapt.ensures.1 in
    rw (p.1, p.2) (
    ap (keys_fault PLAIN d) (rows_in-penalties c.args.sort) ∙
    fault-later PLAIN d table.p1 (table.p2 ∷ later) (ap result_err (sym c.in_ok-p1.ensures.exact)) ∙
    fault-later PLAIN d table.p2 later (ap result_err (sym c.in_ok-p2.ensures.exact)) ∙
    c.in_err-check_adapt.ensures.fault)

pub returns-clause-ok : goal.returns-clause-ok
returns-clause-ok c =
    let d = view c.args.object.now in
    let later = given_rows c.args.sort (table.adapt ∷ []) in
    ap (keys_fault PLAIN d) (rows_in-penalties c.args.sort)
    ∙ fault-later PLAIN d table.p1 (table.p2 ∷ later) (ap result_err (sym c.in_ok-p1.ensures.exact))
    ∙ fault-later PLAIN d table.p2 later (ap result_err (sym c.in_ok-p2.ensures.exact))
    ∙ c.in_ok-check_adapt.ensures.ok
