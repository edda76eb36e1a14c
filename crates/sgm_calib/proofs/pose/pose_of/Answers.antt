use Rattle.std.proofs.Common.{sym, subst}
use Rattle.serde_json.specs.View.{view}
use Rattle.sgm_height.specs.Pose.{IsPose}
use Rattle.sgm_calib.proofs.PoseLemmas.{pose_kept}
use Rattle.sgm_calib.proofs.pose.pose_of.Goals as goal

pub returns-clause-kept : goal.returns-clause-kept
returns-clause-kept c =
    let axes = c.in_ok-axes.ensures in
    subst IsPose (sym c.pose_with.ensures)
    (pose_kept (view c.args.object.now) c.in_ok-axes.axes axes.value axes.east axes.north axes.up axes.nearly c.in_ok-check_numbers.ensures.ok)
