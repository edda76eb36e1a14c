-- What the laws of poses speak of.
use Rattle.std.specs.Prelude.{◌^◌, ℤ, pos, ◌+ℤ◌, ◌*ℤ◌}
use Rattle.sgm_base.specs.declared.point.Point.{Point}
use Rattle.sgm_height.specs.declared.pose.Axes.{Axes}
use Rattle.sgm_height.specs.declared.pose.Pose.{Pose}
use Rattle.sgm_height.specs.Pose.{dot_point}

-- the square of how far a point lies from where its coordinates count from
abbrev pub squared : Point → ℤ
squared p = ((p.x *ℤ p.x) +ℤ (p.y *ℤ p.y)) +ℤ (p.h *ℤ p.h)

-- a camera's point along the axes, in 1/2^30, with nothing rounded
abbrev pub turned : Axes → Point → Point
turned axes p = record {
  x = dot_point axes.east p;
  y = dot_point axes.north p;
  h = dot_point axes.up p;
}

-- the pose of a camera that stands as the site's frame does, moved by those shifts
abbrev pub unturned : ℤ → ℤ → ℤ → Pose
unturned east north up = record {
  axes = record {
    east = record { x = pos (2 ^ 30); y = pos 0; h = pos 0 };
    north = record { x = pos 0; y = pos (2 ^ 30); h = pos 0 };
    up = record { x = pos 0; y = pos 0; h = pos (2 ^ 30) };
  };
  east = east;
  north = north;
  up = up;
}
