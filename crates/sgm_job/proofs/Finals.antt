-- The disparities of two images are a map, and where nothing is refined the final one.
use Rattle.std.proofs.Common.{◌≡◌, sym, subst, arith}
use Rattle.sgm_base.specs.Picture.{Picture, IsPicture}
use Rattle.sgm_base.specs.Sides.{IsSide}
use Rattle.sgm_base.specs.Values.{IsValues}
use Rattle.sgm_base.specs.Refining.{plain}
use Rattle.sgm_rectify.specs.Rectified.{rectified_values}
use Rattle.sgm_calib.specs.Calibration.{Calibration}
use Rattle.sgm_refine.proofs.Kept.{all_kept}
use Rattle.sgm_map.proofs.Finals.{are_full, made_height, made_width}
use Rattle.sgm_job.specs.Survey.{disparities, left_plane, problem, right_plane, survey_of}

are_values : (left right : Picture) (calib : Calibration) → IsPicture left → IsValues (disparities left right calib)
unfolding rectified_values
are_values left right calib kept = record {
  width_in_range = subst IsSide (sym (made_width (problem left right calib) (left_plane left calib) (right_plane right calib) calib.span calib.fine)) kept.width_in_range;
  height_in_range = subst IsSide (sym (made_height (problem left right calib) (left_plane left calib) (right_plane right calib) calib.span calib.fine)) kept.height_in_range;
  full = are_full (problem left right calib) (left_plane left calib) (right_plane right calib) calib.span calib.fine;
}

-- where nothing is to be removed and nothing to be filled, they are the final ones
pub unrefined : (left right : Picture) (calib : Calibration) → IsPicture left → (survey_of left right calib plain).disp ≡ disparities left right calib
unrefined left right calib kept = all_kept (disparities left right calib) 0 (are_values left right calib kept) (omega arith)
