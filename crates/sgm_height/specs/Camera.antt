-- What a camera makes of a pixel and its disparity.
use Rattle.std.specs.Prelude.{ℕ, ℤ, pos, neg_ℤ, ◌+ℤ◌, ◌-ℤ◌, ◌*ℤ◌, int_lt, int_le, ◌&&◌, Bool}
use Rattle.std.specs.Prelude.{if◌then◌else◌, Option, Some, None}
use Rattle.sgm_base.specs.Ranges.{IsFromTo}
use Rattle.sgm_base.specs.Rounding.{rounded}
use Rattle.sgm_base.specs.declared.point.Point.{Point}
use Rattle.sgm_height.specs.declared.camera.Camera.{Camera}
use Rattle.sgm_height.specs.declared.limits.TheConstants.{MAX_FOCAL, MAX_BASELINE, MAX_OFFSET}
use Rattle.sgm_height.specs.declared.limits.TheConstants.{MAX_MOUNT, MAX_DEPTH}

-- the ranges of a camera
pub record IsCamera (camera : Camera) : Type 0 where
  pub focal_in_range : IsFromTo (pos 1) MAX_FOCAL camera.focal
  pub baseline_in_range : IsFromTo (pos 1) MAX_BASELINE camera.baseline
  pub cx_in_range : IsFromTo (neg_ℤ MAX_OFFSET) MAX_OFFSET camera.cx
  pub cy_in_range : IsFromTo (neg_ℤ MAX_OFFSET) MAX_OFFSET camera.cy
  pub doffs_in_range : IsFromTo (neg_ℤ MAX_OFFSET) MAX_OFFSET camera.doffs
  pub mount_in_range : IsFromTo (pos 0) MAX_MOUNT camera.mount
  pub near_in_range : IsFromTo (pos 1) MAX_DEPTH camera.near
  pub far_in_range : IsFromTo camera.near MAX_DEPTH camera.far

-- the disparity with the camera's offset, in 1/256 of a pixel
abbrev pub shift_of : Camera → ℤ → ℤ
shift_of camera disparity16 = (pos 16 *ℤ disparity16) +ℤ camera.doffs

-- how far below the cameras a point lies
abbrev pub depth_of : Camera → ℤ → ℤ
depth_of camera shift = rounded (camera.focal *ℤ camera.baseline) shift

-- the point at that shift, to the right and to the north of the centre
abbrev pub placed : Camera → ℕ → ℕ → ℤ → Point
placed camera x y shift = record {
  x = rounded (((pos 256 *ℤ pos x) -ℤ camera.cx) *ℤ camera.baseline) shift;
  y = rounded ((camera.cy -ℤ (pos 256 *ℤ pos y)) *ℤ camera.baseline) shift;
  h = camera.mount -ℤ depth_of camera shift;
}

-- whether there is a point: the shift is above 0, and the depth from near to far
abbrev pub has_point : Camera → ℤ → Bool
has_point camera shift =
    int_lt (pos 0) shift && int_le camera.near (depth_of camera shift)
    && int_le (depth_of camera shift) camera.far

-- the point of a pixel at that shift, or none
abbrev pub point_with : Camera → ℕ → ℕ → ℤ → Option Point
point_with camera x y shift = if has_point camera shift then Some (placed camera x y shift)
    else None

-- the point of a pixel at a disparity in sixteenths of a pixel, or none
abbrev pub point_of : Camera → ℕ → ℕ → ℤ → Option Point
point_of camera x y disparity16 = point_with camera x y (shift_of camera disparity16)
