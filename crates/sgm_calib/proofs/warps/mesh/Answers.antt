use Rattle.std.proofs.Common.{◌≡◌, Option, None, IfErr, OnOk, subst, sym}
use Rattle.serde_json.specs.View.{view}
use Rattle.sgm_calib.specs.declared.keys.CalibFault.{CalibFault}
use Rattle.sgm_calib.specs.Checks.{IsFaultOf}
use Rattle.sgm_calib.proofs.KeyLemmas.{keys_fault-mesh}
use Rattle.sgm_calib.proofs.warps.mesh.Goals as goal

pub returns-clause-ok : goal.returns-clause-ok
returns-clause-ok c =
    subst (λ (fault : Option CalibFault). OnOk c.mesh_by_nodes.result (fault ≡ None)) (sym (keys_fault-mesh c.args.place (view c.args.side.now))) c.mesh_by_nodes.ensures.ok

pub returns-clause-fault : goal.returns-clause-fault
returns-clause-fault c =
    subst (λ (fault : Option CalibFault). IfErr c.mesh_by_nodes.result (λ e. IsFaultOf fault e)) (sym (keys_fault-mesh c.args.place (view c.args.side.now))) c.mesh_by_nodes.ensures.fault
