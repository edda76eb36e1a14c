-- Rows of costs that come to the end of a list.
use Rattle.std.specs.Prelude.{◌≡◌, ℕ, ◌+◌, ◌*◌, ◌<◌, ◌≤◌, List, ◌++◌, length, slice_index, All}
use Rattle.sgm_base.specs.declared.limits.TheConstants.{MAX_COST}

-- a row of so many columns, with so many costs each, came to the end: f x d is the cost of the
-- column x and the index d
pub record AppendsCosts (width count : ℕ) (f : ℕ → ℕ → ℕ) (old new : List ℕ) : Type 0 where
  pub row : List ℕ
  pub added : new ≡ old ++ row
  pub whole : length row ≡ width * count
  pub each : (x d : ℕ) → x < width → d < count → slice_index row (x * count + d) ≡ f x d
  pub low : All (λ c. c ≤ MAX_COST) row
