-- What a camera, and the pose in which it stands where it has one, make of a pixel and its
-- disparity.
use Rattle.std.specs.Prelude.{ℕ, ℤ, Option, Some, None, option_and_then, IfSome}
use Rattle.sgm_base.specs.declared.point.Point.{Point}
use Rattle.sgm_height.specs.Camera.{IsCamera, point_of}
use Rattle.sgm_height.specs.Pose.{IsPose, site_point}
use Rattle.sgm_height.specs.declared.pose.Pose.{Pose}
use Rattle.sgm_height.specs.declared.station.Station.{Station}

pub record IsStation (station : Station) : Type 0 where
  pub camera_kept : IsCamera station.camera
  pub pose_kept : IfSome station.pose IsPose

-- a camera's point in the frame of the heights: that of the site, or else the camera's own
abbrev pub framed : Option Pose → Point → Option Point
framed None p = Some p
framed (Some pose) p = site_point pose p

-- the point of a pixel at a disparity in sixteenths of a pixel, or none
abbrev pub seen_from : Station → ℕ → ℕ → ℤ → Option Point
seen_from station x y disparity16 =
    option_and_then (framed station.pose) (point_of station.camera x y disparity16)
