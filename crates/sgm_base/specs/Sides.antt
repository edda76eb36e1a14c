-- The sides of an image.
use Rattle.std.specs.Prelude.{ℕ, ◌≤◌}
use Rattle.sgm_base.specs.declared.limits.TheConstants.{MAX_SIDE}

-- a width or a height
abbrev pub IsSide : ℕ → Type 0
IsSide n = (1 ≤ n) × (n ≤ MAX_SIDE)

-- what contracts see of a size
pub record Sides : Type 0 where
  pub width : ℕ
  pub height : ℕ
