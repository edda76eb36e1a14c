-- What one step asks of its arguments, and what it writes.
use Rattle.std.specs.Prelude.{◌≡◌, ℕ, ◌-◌, ◌≤◌, List, length, slice_index, All, Bool, true, false}
use Rattle.sgm_base.specs.declared.limits.TheConstants.{MAX_COST, MAX_PATH_VALUE, MAX_PENALTY}
use Rattle.sgm_energy.specs.Step.{IsStepped}

-- the values prev, of which floor is the least or less, have a cost each, and all numbers are in
-- their limits
pub record CanStep (prev : List ℕ) (floor : ℕ) (cost : List ℕ) (p1 p2 : ℕ) : Type 0 where
  pub cost_length : length cost ≡ length prev
  pub floor_least : All (λ x. floor ≤ x) prev
  pub floor_small : floor ≤ MAX_PATH_VALUE
  pub ordered : p1 ≤ p2
  pub penalties : p2 ≤ MAX_PENALTY
  pub values : All (λ x. x ≤ MAX_PATH_VALUE) prev
  pub costs : All (λ x. x ≤ MAX_COST) cost

-- value is what a step from prev gives at the index d
abbrev pub StepsTo : List ℕ → ℕ → List ℕ → ℕ → ℕ → ℕ → ℕ → Type 0
StepsTo prev floor cost p1 p2 d value =
    IsStepped (slice_index prev) (length prev) p1 p2 floor (slice_index cost d) d value

-- the number of the chunk that is the i-th to come, where they come from the last to the first, or
-- from the first to the last
abbrev pub nth_of : Bool → ℕ → ℕ → ℕ
nth_of true chunks i = chunks - 1 - i
nth_of false chunks i = i
