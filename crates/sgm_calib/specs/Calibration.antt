-- What contracts see of a calibration, and what every calibration keeps.
use Rattle.std.specs.Prelude.{◌≤◌, pos, Bool, false, List, All, Option, None, option_map, IfSome}
use Rattle.std.specs.Prelude.{is_some, IsTrue, length}
use Rattle.sgm_base.specs.Disparities.{Disparities}
use Rattle.sgm_base.specs.declared.limits.TheConstants.{MAX_REGIONS}
use Rattle.sgm_census.specs.Windows.{WindowSides}
use Rattle.sgm_census.specs.declared.rule.CostRule.{CostRule}
use Rattle.sgm_census.specs.declared.rule.CostRule.TheVariants.{Plain}
use Rattle.sgm_energy.specs.Pens.{Penalties}
use Rattle.sgm_rectify.specs.declared.warp.Warp.{Warp}
use Rattle.sgm_rectify.specs.declared.warp.Warp.TheVariants.{Identity}
use Rattle.sgm_rectify.specs.Warps.{IsWarp}
use Rattle.sgm_height.specs.declared.camera.Camera.{Camera}
use Rattle.sgm_height.specs.declared.pose.Pose.{Pose}
use Rattle.sgm_height.specs.declared.station.Station.{Station}
use Rattle.sgm_height.specs.Camera.{IsCamera}
use Rattle.sgm_height.specs.Pose.{IsPose}
use Rattle.sgm_grid.specs.declared.grid_spec.GridSpec.{GridSpec}
use Rattle.sgm_grid.specs.declared.keep.Gridding.{Gridding}
use Rattle.sgm_grid.specs.declared.keep.Keep.TheVariants.{Highest}
use Rattle.sgm_grid.specs.Cells.{IsGridSpec}
use Rattle.sgm_grid.specs.Keeping.{IsGridding}
use Rattle.sgm_report.specs.declared.table.Columns.{Columns}
use Rattle.sgm_report.specs.declared.table.Columns.TheVariants as columns
use Rattle.sgm_report.specs.Areas.{Area, IsArea}

pub record Calibration : Type 0 where
  pub span : Disparities
  pub fine : Bool
  pub window : WindowSides
  pub rule : CostRule
  pub penalties : Penalties
  pub left : Warp
  pub right : Warp
  pub camera : Option Camera
  pub pose : Option Pose
  pub grid : Option GridSpec
  pub gridding : Gridding
  pub columns : Columns
  pub regions : Option (List Area)

-- cells that keep the highest of their points, and no bridge
abbrev pub plain_gridding : Gridding
plain_gridding = record { keep = Highest; bridge = 0 }

-- the settings for the word `-`
abbrev pub plain : Calibration
plain = record {
  span = record { first = pos 0; count = 64 };
  fine = false;
  window = record { width = 9; height = 7 };
  rule = Plain;
  penalties = record { p1 = 10; p2 = 120; adaptive = false };
  left = Identity;
  right = Identity;
  camera = None;
  pose = None;
  grid = None;
  gridding = plain_gridding;
  columns = columns.Plain;
  regions = None;
}

-- the camera and how it stands, where there is one
abbrev pub station_of : Calibration → Option Station
station_of calib = option_map (λ camera. record { camera = camera; pose = calib.pose }) calib.camera

-- the ranges of warps, camera, pose and grid; a camera where there is a grid; a grid where there
-- are regions, and each of them in it
pub record IsCalibration (calib : Calibration) : Type 0 where
  pub left_kept : IsWarp calib.left
  pub right_kept : IsWarp calib.right
  pub camera_kept : IfSome calib.camera IsCamera
  pub pose_kept : IfSome calib.pose IsPose
  pub grid_kept : IfSome calib.grid IsGridSpec
  pub gridding_kept : IsGridding calib.gridding
  pub grid_has_camera : IfSome calib.grid (λ _. IsTrue (is_some calib.camera))
  pub regions_have_grid : IfSome calib.regions (λ _. IsTrue (is_some calib.grid))
  pub regions_inside : IfSome calib.grid
      (λ spec. IfSome calib.regions (λ areas. All (IsArea spec) areas))
  pub regions_few : IfSome calib.regions (λ areas. length areas ≤ MAX_REGIONS)
