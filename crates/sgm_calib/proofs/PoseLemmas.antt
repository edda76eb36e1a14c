-- What a pose without a fault keeps.
use Rattle.std.proofs.Common.{◌≡◌, [], ◌∷◌, None, IsTrue, subst}
use Rattle.serde_json.specs.Data.{Data}
use Rattle.sgm_height.specs.declared.pose.Axes.{Axes}
use Rattle.sgm_height.specs.Pose.{IsAxis, IsPose, axes_of, is_nearly_rotation}
use Rattle.sgm_calib.specs.declared.place.TheConstants.{PLAIN}
use Rattle.sgm_calib.specs.Checks.{keys_fault, numbers_at}
use Rattle.sgm_calib.specs.Judge.{pose_of}
use Rattle.sgm_calib.specs.Table as table
use Rattle.sgm_calib.proofs.Numbers.{from_to, parted}

-- a pose whose keys have no fault keeps its ranges
pub pose_kept : (d : Data) (axes : Axes) → axes ≡ axes_of (numbers_at table.pose_matrix d)
    → IsAxis axes.east → IsAxis axes.north → IsAxis axes.up → IsTrue (is_nearly_rotation axes)
    → keys_fault PLAIN d table.shift_keys ≡ None → IsPose (pose_of d)
unfolding pose_of
pose_kept d axes is east_axis north_axis up_axis nearly right =
    let east = parted PLAIN d table.pose_east (table.pose_north ∷ table.pose_up ∷ []) right in
    let north = parted PLAIN d table.pose_north (table.pose_up ∷ []) east.1 in
    let up = parted PLAIN d table.pose_up [] north.1 in
    record {
      in_range = record {
        east_axis_in_range = subst (λ (a : Axes). IsAxis a.east) is east_axis;
        north_axis_in_range = subst (λ (a : Axes). IsAxis a.north) is north_axis;
        up_axis_in_range = subst (λ (a : Axes). IsAxis a.up) is up_axis;
        east_in_range = from_to PLAIN d table.pose_east east.0;
        north_in_range = from_to PLAIN d table.pose_north north.0;
        up_in_range = from_to PLAIN d table.pose_up up.0;
      };
      nearly_rotation = subst (λ (a : Axes). IsTrue (is_nearly_rotation a)) is nearly;
    }
