use Rattle.std.proofs.Common.{Some, ap, sym, ◌∙◌}
use Rattle.serde_json.specs.View.{view}
use Rattle.sgm_calib.specs.Rows.{meant}
use Rattle.sgm_calib.specs.declared.keys.CalibFault.TheVariants.{Missing}
use Rattle.sgm_calib.proofs.KeyLemmas.{itself_fault-missing}
use Rattle.sgm_calib.proofs.checks.object_in.Goals as goal

pub returns-in-None-clause-fault : goal.returns-in-None-clause-fault
returns-in-None-clause-fault c =
    itself_fault-missing (view c.args.top.now) (meant c.args.row.now) c.in-None.ensures c.if-is_required.ensures
    ∙ ap (λ key. Some (Missing key)) (sym c.key_at.ensures)
