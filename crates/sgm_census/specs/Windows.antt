-- The window of the census transform.
use Rattle.std.specs.Prelude.{◌≡◌, ℕ, ◌-◌, ◌*◌, ◌%◌, ◌≤◌}
use Rattle.sgm_base.specs.declared.limits.TheConstants.{MAX_WINDOW_HEIGHT, MAX_WINDOW_WIDTH}
use Rattle.sgm_base.specs.declared.limits.TheConstants.{MIN_WINDOW_SIDE}

-- what contracts see of a window
pub record WindowSides : Type 0 where
  pub width : ℕ
  pub height : ℕ

-- both sides are odd, and within their limits
pub record IsWindow (width height : ℕ) : Type 0 where
  pub wide : (MIN_WINDOW_SIDE ≤ width) × (width ≤ MAX_WINDOW_WIDTH)
  pub odd_width : width % 2 ≡ 1
  pub high : (MIN_WINDOW_SIDE ≤ height) × (height ≤ MAX_WINDOW_HEIGHT)
  pub odd_height : height % 2 ≡ 1

-- how many pixels a window has beside its centre: the length of each code, and the greatest cost
abbrev pub greatest_of : WindowSides → ℕ
greatest_of window = window.width * window.height - 1
