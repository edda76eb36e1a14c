-- The disparities that are tried.
use Rattle.std.specs.Prelude.{ℕ, ◌≤◌, ℤ, ◌≤ℤ◌}
use Rattle.sgm_base.specs.declared.limits.TheConstants.{MAX_COUNT, MAX_FIRST, MIN_FIRST}

-- a number of disparities
abbrev pub IsCount : ℕ → Type 0
IsCount n = (1 ≤ n) × (n ≤ MAX_COUNT)

-- a first disparity
abbrev pub IsFirst : ℤ → Type 0
IsFirst z = (MIN_FIRST ≤ℤ z) × (z ≤ℤ MAX_FIRST)

-- what contracts see of a span: `count` disparities from `first` on
pub record Disparities : Type 0 where
  pub first : ℤ
  pub count : ℕ
