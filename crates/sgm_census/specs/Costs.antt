-- Matching costs: in how many places two codes differ, and these smoothed along the row.
use Rattle.std.specs.Prelude.{ℕ, ◌+◌, ◌-◌, ◌*◌, ◌/◌, Bool, true, false, nat_lt, if◌then◌else◌, List}
use Rattle.std.specs.Prelude.{◌∷◌, Option, Some, option_and_then, ℤ}
use Rattle.sgm_lanes.specs.Middles.{smoothed}
use Rattle.sgm_census.specs.Windows.{WindowSides, greatest_of}
use Rattle.sgm_census.specs.declared.rule.CostRule.{CostRule}
use Rattle.sgm_census.specs.declared.rule.CostRule.TheVariants.{Plain, Smoothed}
use Rattle.sgm_base.specs.Columns.{right_column}
use Rattle.sgm_census.specs.Codes.{Codes, code_in}

-- 1 where two truth values differ, else 0
abbrev pub differs : Bool → Bool → ℕ
differs true false = 1
differs false true = 1
differs _ _ = 0

-- the number of places in which two codes differ
abbrev pub differing : List Bool → List Bool → ℕ
differing (a ∷ left) (b ∷ right) = differs a b + differing left right
differing _ _ = 0

-- that number for a pair of codes, or missing where there is none
abbrev pub cost_between : ℕ → Option (List Bool) → Option (List Bool) → ℕ
cost_between missing (Some a) (Some b) = differing a b
cost_between missing _ _ = missing

-- the cost where a code is missing: the greatest, or three sevenths of it, rounded down
abbrev pub missing_cost : CostRule → WindowSides → ℕ
missing_cost Plain window = greatest_of window
missing_cost Smoothed window = 3 * greatest_of window / 7

-- The single cost of the index d at the pixel (x, y) of the left image, where first + d is a
-- disparity: the number of places in which its code and the code at (x - first - d, y) in the right
-- image differ, or the rule's missing cost where either is none or outside.
unfoldable pub single_cost : Codes → Codes → ℤ → ℕ → ℕ → ℕ → ℕ
single_cost left right first x y d =
    cost_between (missing_cost left.rule left.window) (code_in left x y)
    (option_and_then (λ q. code_in right q y) (right_column right.width first x d))

-- Of the single costs in a row so wide, that of the column x, or the three round it smoothed. Where
-- a column beside it lies outside, x stands for it.
abbrev pub cost_by : CostRule → ℕ → (ℕ → ℕ) → ℕ → ℕ
cost_by Plain width single x = single x
cost_by Smoothed width single x = smoothed (single (x - 1)) (single x)
    (single (if nat_lt (x + 1) width then x + 1 else x))

-- the cost of the index d at the pixel (x, y) of the left image, by the rule of its codes
unfoldable pub census_cost : Codes → Codes → ℤ → ℕ → ℕ → ℕ → ℕ
census_cost left right first x y d =
    cost_by left.rule left.width (λ q. single_cost left right first q y d) x
