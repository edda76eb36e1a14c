-- What stands between the images and the scene.
use Rattle.std.specs.Prelude.{◌≡◌, None}
use Rattle.sgm_base.specs.Picture.{Picture}
use Rattle.sgm_base.specs.Sides.{Sides}
use Rattle.sgm_calib.specs.Calibration.{Calibration}
use Rattle.sgm_census.specs.Codes.{codes_of}
use Rattle.sgm_census.specs.Windows.{WindowSides}
use Rattle.sgm_census.specs.declared.rule.CostRule.{CostRule}
use Rattle.sgm_rectify.specs.declared.warp.Warp.{Warp}
use Rattle.sgm_rectify.specs.Faults.{warp_fault}
use Rattle.sgm_rectify.specs.Rectified.{rectified_values}
use Rattle.sgm_job.specs.declared.pair.Coded.{Coded}
use Rattle.sgm_job.specs.declared.pair.CodedPair.{CodedPair}

-- images of these sides can be rectified as a pair: the sides are the same, and neither warp has a
-- fault
pub record Passes (left right : Sides) (calib : Calibration) : Type 0 where
  pub same : left ≡ right
  pub left_faultless : warp_fault calib.left left ≡ None
  pub right_faultless : warp_fault calib.right right ≡ None

-- the plane is the rectified image, and the codes are those of its pixels
pub record IsMade (image : Picture) (warp : Warp) (window : WindowSides) (rule : CostRule)
    (made : Coded) : Type 0 where
  pub rectified : made.plane ≡ rectified_values image warp
  pub coded : made.codes ≡ codes_of made.plane window rule

-- both images are so made, by their calibration
pub record IsPair (left right : Picture) (calib : Calibration) (pair : CodedPair) : Type 0 where
  pub left_made : IsMade left calib.left calib.window calib.rule pair.left
  pub right_made : IsMade right calib.right calib.window calib.rule pair.right
  pub same_maxval : pair.maxval ≡ left.maxval
