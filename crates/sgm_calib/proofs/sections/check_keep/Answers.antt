use Rattle.std.proofs.Common.{true, false, Some, is_some, ap, sym, ◌∙◌}
use Rattle.std.proofs.lemmas.Result.{err_from_is_err_and}
use Rattle.serde_json.specs.View.{view}
use Rattle.sgm_calib.specs.declared.keys.CalibFault.TheVariants.{Range}
use Rattle.sgm_calib.specs.declared.place.TheConstants.{PLAIN}
use Rattle.sgm_calib.specs.Keeps.{is_keep}
use Rattle.sgm_calib.specs.Table as table
use Rattle.sgm_calib.proofs.KeyLemmas.{text-tested, text-wrong}
use Rattle.sgm_calib.proofs.sections.check_keep.Goals as goal

pub returns-in_err-name-clause-fault : goal.returns-in_err-name-clause-fault
returns-in_err-name-clause-fault c =
    let p = err_from_is_err_and c.from_residual.result c.from_residual.ensures.1 in
    rw (p.1, p.2) (text-wrong is_keep PLAIN (view c.args.object.now) table.keep _ c.in_err-name.ensures.fault)

pub returns-in-None-clause-fault : goal.returns-in-None-clause-fault
returns-in-None-clause-fault c =
    text-tested is_keep PLAIN (view c.args.object.now) table.keep _ false c.in_ok-name.ensures.ok (ap is_some c.in-None.ensures)
    ∙ ap (λ key. Some (Range key)) (sym c.key_at.ensures)

pub returns-in-Some-clause-ok : goal.returns-in-Some-clause-ok
returns-in-Some-clause-ok c =
    text-tested is_keep PLAIN (view c.args.object.now) table.keep _ true c.in_ok-name.ensures.ok (ap is_some c.in-Some.ensures)
