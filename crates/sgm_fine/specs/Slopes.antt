-- How the values of a map rise around a pixel.
use Rattle.std.specs.Prelude.{◌≡◌, ℕ, ◌+◌, ◌%◌, ◌/◌, ◌&&◌, nat_le, if◌then◌else◌, Option, Some}
use Rattle.std.specs.Prelude.{None, unwrap_or, is_some, ℤ, pos, ◌-ℤ◌, ◌*ℤ◌}
use Rattle.std.specs.Ordering.{int_eq}
use Rattle.sgm_base.specs.Ranges.{IsFromTo, Within}
use Rattle.sgm_base.specs.Rounding.{rounded}
use Rattle.sgm_base.specs.Values.{Values}
use Rattle.sgm_fine.specs.Windows.{column_of, products, row_of_place, value_around}
use Rattle.sgm_fine.specs.declared.slopes.Slope.{Slope}
use Rattle.sgm_fine.specs.declared.slopes.Slopes.{Slopes}

-- the step from m to a value, where there is one that isn't further away than that
abbrev pub step_to : ℕ → ℕ → Option ℕ → Option ℤ
step_to most m (Some v) = if nat_le v (m + most) && nat_le m (v + most) then Some (pos v -ℤ pos m)
    else None
step_to most m None = None

-- the step to the place k of the window around the pixel (x, y), whose value is m: up to two
-- pixels, in sixteenths
abbrev pub step_at : Values → ℕ → ℕ → ℕ → ℕ → Option ℤ
step_at map x y m k = step_to 32 m (value_around map 2 x y (k % 5) (k / 5))

-- the sum of the steps, each by its distance along an axis
abbrev pub moment : (ℕ → ℤ) → (ℕ → Option ℤ) → ℤ
moment axis steps = products axis (λ k. unwrap_or (steps k) (pos 0))

-- the sum of the squares of the distances of those places that have a step
abbrev pub spread : (ℕ → ℤ) → (ℕ → Option ℤ) → ℤ
spread axis steps = products (λ k. axis k *ℤ axis k)
    (λ k. if is_some (steps k) then pos 1 else pos 0)

-- how far the values rise over a distance along the axis: 0 where nothing tells
abbrev pub rise : (ℕ → ℤ) → (ℕ → Option ℤ) → ℤ → ℤ
rise axis steps distance =
    if int_eq (spread axis steps) (pos 0) then pos 0
    else rounded (distance *ℤ moment axis steps) (spread axis steps)

-- what the code holds of the steps around a pixel
pub record HoldsSlopes (found : Slopes) (steps : ℕ → Option ℤ) : Type 0 where
  pub across_moment : found.across.moment ≡ moment column_of steps
  pub across_spread : found.across.spread ≡ spread column_of steps
  pub down_moment : found.down.moment ≡ moment row_of_place steps
  pub down_spread : found.down.spread ≡ spread row_of_place steps

-- what a slope keeps
pub record IsSlope (slope : Slope) : Type 0 where
  pub moment : Within 1600 slope.moment
  pub spread : IsFromTo (pos 0) (pos 100) slope.spread
