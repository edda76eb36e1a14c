use Rattle.std.proofs.Common.{Some, ap, sym, ◌∙◌}
use Rattle.sgm_calib.specs.declared.keys.CalibFault.TheVariants.{Unknown}
use Rattle.sgm_calib.proofs.Names.{object_fault-keys}
use Rattle.sgm_calib.proofs.checks.check_object.Goals as goal

pub returns-in-Some-clause-ok : goal.returns-in-Some-clause-ok
returns-in-Some-clause-ok c = object_fault-keys _ _ _ _ _ _ c.in-Some.ensures c.if-has_only.ensures

pub returns-in-Some-2-clause-fault : goal.returns-in-Some-2-clause-fault
returns-in-Some-2-clause-fault c =
    object_fault-keys _ _ _ _ _ _ c.in-Some.ensures c.if-has_only.ensures
    ∙ ap (λ key. Some (Unknown key)) (sym c.key_at-in-Some-2.ensures)
