-- The penalties of changes of the index from one pixel of a ray to the next.
use Rattle.std.specs.Prelude.{ℕ, ◌*◌, ◌/◌, max, Bool, if◌then◌else◌, map, Option, Some, option_map}
use Rattle.std.specs.Int.{abs_diff}
use Rattle.sgm_base.specs.Values.{Values, values_of}
use Rattle.sgm_energy.specs.declared.pen.Pen.{Pen}

-- what contracts see of a pen: the penalty of a change by one, that of a change by more, and
-- whether the second one follows the image
pub record Penalties : Type 0 where
  pub p1 : ℕ
  pub p2 : ℕ
  pub adaptive : Bool

abbrev pub penalties_of : Pen → Penalties
penalties_of pen = record { p1 = pen.p1; p2 = pen.p2; adaptive = pen.adaptive }

-- What the image leaves of p2 between two pixels with these grey values: p2 divided by how far they
-- differ, rounded down, and never less than p1. A difference of 0 counts as 1. Where a value is
-- missing it is p2. (The division and the bound are those of Hirschmüller 2008; the rounding and
-- the difference of 0 are chosen here.)
abbrev pub adapted : ℕ → ℕ → Option ℕ → Option ℕ → ℕ
adapted p1 p2 (Some here) (Some before) = max p1 (p2 / max 1 (abs_diff here before))
adapted p1 p2 _ _ = p2

-- the penalty of a change by more than one, from a pixel to the next, by what the guide has at both
abbrev pub far_of : Penalties → Option ℕ → Option ℕ → ℕ
far_of penalties here before = if penalties.adaptive
    then adapted penalties.p1 penalties.p2 here before else penalties.p2

-- The guide of a plane whose values go up to maxval: its values as grey values from 0 to 255,
-- rounded down, none where the plane is void.
abbrev pub guide_of : Values → ℕ → Values
guide_of plane maxval = values_of plane.width plane.height
    (map (option_map (λ v. 255 * v / maxval)) plane.entries)
