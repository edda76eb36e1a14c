-- What a camera's points are in the frame of the site: east, north and up from a point of it.
use Rattle.std.specs.Prelude.{ℕ, ◌+◌, ◌^◌, ℤ, pos, neg_ℤ, ◌+ℤ◌, ◌-ℤ◌, ◌*ℤ◌, int_le, Bool, ◌&&◌}
use Rattle.std.specs.Prelude.{if◌then◌else◌, List, get_or, IsTrue, Option, Some, None}
use Rattle.sgm_base.specs.Ranges.{Within}
use Rattle.sgm_base.specs.Rounding.{rounded}
use Rattle.sgm_base.specs.declared.point.Point.{Point}
use Rattle.sgm_height.specs.declared.pose.Axis.{Axis}
use Rattle.sgm_height.specs.declared.pose.Axes.{Axes}
use Rattle.sgm_height.specs.declared.pose.Pose.{Pose}
use Rattle.sgm_height.specs.declared.limits.TheConstants.{MAX_SITE}

-- ---- axes

-- the axis that three numbers of a list are, and the axes by the rows of a matrix of three by three
abbrev pub axis_from : List ℤ → ℕ → Axis
axis_from matrix first = record {
  x = get_or matrix first (pos 0);
  y = get_or matrix (first + 1) (pos 0);
  h = get_or matrix (first + 2) (pos 0);
}

abbrev pub axes_of : List ℤ → Axes
axes_of matrix =
    record { east = axis_from matrix 0; north = axis_from matrix 3; up = axis_from matrix 6 }

-- the scalar product of two axes, in 1/2^60
abbrev pub dot : Axis → Axis → ℤ
dot a b = ((a.x *ℤ b.x) +ℤ (a.y *ℤ b.y)) +ℤ (a.h *ℤ b.h)

abbrev pub is_small : ℤ → Bool
is_small z = int_le (neg_ℤ (pos (2 ^ 45))) z && int_le z (pos (2 ^ 45))

-- the square of an axis's length is nearly 1
abbrev pub is_nearly_unit : Axis → Bool
is_nearly_unit a = is_small (dot a a -ℤ pos (2 ^ 60))

-- two axes are nearly at right angles
abbrev pub are_nearly_square : Axis → Axis → Bool
are_nearly_square a b = is_small (dot a b)

-- whether axes are nearly those of a rotation; they may mirror
unfoldable pub is_nearly_rotation : Axes → Bool
is_nearly_rotation axes =
    is_nearly_unit axes.east && is_nearly_unit axes.north && is_nearly_unit axes.up
    && are_nearly_square axes.east axes.north
    && are_nearly_square axes.east axes.up
    && are_nearly_square axes.north axes.up

-- ---- the ranges of a pose

pub record IsAxis (a : Axis) : Type 0 where
  pub x_in_range : Within (2 ^ 30) a.x
  pub y_in_range : Within (2 ^ 30) a.y
  pub h_in_range : Within (2 ^ 30) a.h

pub record IsInRange (pose : Pose) : Type 0 where
  pub east_axis_in_range : IsAxis pose.axes.east
  pub north_axis_in_range : IsAxis pose.axes.north
  pub up_axis_in_range : IsAxis pose.axes.up
  pub east_in_range : Within 2000000000 pose.east
  pub north_in_range : Within 2000000000 pose.north
  pub up_in_range : Within 2000000000 pose.up

-- a pose keeps them, and is nearly a rotation
pub record IsPose (pose : Pose) : Type 0 where
  pub in_range : IsInRange pose
  pub nearly_rotation : IsTrue (is_nearly_rotation pose.axes)

-- ---- a point in the frame of the site

-- the scalar product of an axis and a point, in 1/2^30 of a micrometre
abbrev pub dot_point : Axis → Point → ℤ
dot_point a p = ((a.x *ℤ p.x) +ℤ (a.y *ℤ p.y)) +ℤ (a.h *ℤ p.h)

-- how far along an axis a point lies, in micrometres
abbrev pub along : Axis → Point → ℤ
along a p = rounded (dot_point a p) (pos (2 ^ 30))

-- a camera's point, turned and moved
unfoldable pub moved : Pose → Point → Point
moved pose p = record {
  x = pose.east +ℤ along pose.axes.east p;
  y = pose.north +ℤ along pose.axes.north p;
  h = pose.up +ℤ along pose.axes.up p;
}

abbrev pub is_level : ℤ → Bool
is_level h = int_le (neg_ℤ MAX_SITE) h && int_le h MAX_SITE

-- the point in the frame of the site; none where its height is out of range
abbrev pub site_point : Pose → Point → Option Point
site_point pose p = if is_level (moved pose p).h then Some (moved pose p) else None
