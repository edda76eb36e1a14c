-- Census codes (Zabih and Woodfill): which neighbours of a pixel are less than the pixel itself, or
-- than the middle of five values.
use Rattle.std.specs.Prelude.{◌≡◌, ℕ, ◌+◌, ◌-◌, ◌*◌, ◌/◌, Bool, ◌&&◌, nat_lt, nat_le, if◌then◌else◌}
use Rattle.std.specs.Prelude.{List, [], ◌∷◌, length, map, slice_index_or, remove, Option, Some}
use Rattle.std.specs.Prelude.{None, option_map, option_and_then, unwrap_or}
use Rattle.std.specs.List.{flat_map, range_with_len}
use Rattle.sgm_lanes.specs.Middles.{middle_of}
use Rattle.sgm_base.specs.Sides.{IsSide}
use Rattle.sgm_base.specs.Values.{Values, value_at, row_by_row}
use Rattle.sgm_census.specs.Windows.{WindowSides, IsWindow, greatest_of}
use Rattle.sgm_census.specs.declared.rule.CostRule.{CostRule}
use Rattle.sgm_census.specs.declared.rule.CostRule.TheVariants.{Plain, Smoothed}

-- the value in the column i and the row j of the window round the pixel (x, y)
abbrev pub value_near : Values → WindowSides → ℕ → ℕ → ℕ → ℕ → Option ℕ
value_near plane window x y i j =
    let across = window.width / 2 in
    let down = window.height / 2 in
    if nat_le across (x + i)
    && nat_le down (y + j) then value_at plane (x + i - across) (y + j - down) else None

-- all values of the window, row by row
unfoldable pub window_values : Values → WindowSides → ℕ → ℕ → List (Option ℕ)
window_values plane window x y =
    flat_map (λ j. map (λ i. value_near plane window x y i j) (range_with_len 0 window.width))
    (range_with_len 0 window.height)

-- those beside the centre, row by row
abbrev pub neighbours : Values → WindowSides → ℕ → ℕ → List (Option ℕ)
neighbours plane window x y = remove (window_values plane window x y)
    (window.width * window.height / 2)

-- all the values, where none is missing
abbrev pub all_there : {X : Type 0} → List (Option X) → Option (List X)
all_there [] = Some []
all_there (None ∷ xs) = None
all_there (Some x ∷ xs) = option_map (λ ys. x ∷ ys) (all_there xs)

-- for each value whether it is less than centre, none where a value is missing
unfoldable pub less_than : ℕ → List (Option ℕ) → Option (List Bool)
less_than centre values = option_map (map (λ v. nat_lt v centre)) (all_there values)

-- The code of the pixel (x, y) by the plain rule: row by row over the window, the centre left out,
-- whether the neighbour is less than the centre. None where a pixel of the window is void or
-- outside.
unfoldable pub code_at : Values → WindowSides → ℕ → ℕ → Option (List Bool)
code_at plane window x y =
    option_and_then (λ centre. less_than centre (neighbours plane window x y)) (value_at plane x y)

-- the window of a pixel and those beside it
abbrev pub three_by_three : WindowSides
three_by_three = record { width = 3; height = 3 }

-- The middle of the pixel (x, y), whose value is own: the third smallest of five values, which are
-- its own and those to the right, left, below and above. Where one of these is void or outside, own
-- stands for it.
unfoldable pub middle_at : Values → ℕ → ℕ → ℕ → ℕ
middle_at plane x y own =
    let beside : ℕ → ℕ → ℕ = λ i j. unwrap_or (value_near plane three_by_three x y i j) own in
    middle_of own (beside 2 1) (beside 0 1) (beside 1 2) (beside 1 0)

-- The code of the pixel (x, y) by the smoothed rule: row by row over the window, the pixel left
-- out, whether the neighbour is less than the pixel's middle. Where a neighbour is void or outside,
-- the pixel's own value stands for it. None where the pixel is void.
unfoldable pub smoothed_code_at : Values → WindowSides → ℕ → ℕ → Option (List Bool)
smoothed_code_at plane window x y =
    option_map
    (λ own. map (λ o. nat_lt (unwrap_or o own) (middle_at plane x y own))
    (neighbours plane window x y)) (value_at plane x y)

-- the code of a pixel by a rule
abbrev pub code_by : CostRule → Values → WindowSides → ℕ → ℕ → Option (List Bool)
code_by Plain = code_at
code_by Smoothed = smoothed_code_at

-- what contracts see of a plane of codes: its sides, its window, its rule, and for each pixel, row
-- by row, its code or none
pub record Codes : Type 0 where
  pub width : ℕ
  pub height : ℕ
  pub window : WindowSides
  pub rule : CostRule
  pub codes : List (Option (List Bool))

-- the codes of a plane
abbrev pub codes_of : Values → WindowSides → CostRule → Codes
codes_of plane window rule = record {
  width = plane.width;
  height = plane.height;
  window = window;
  rule = rule;
  codes = row_by_row plane.width plane.height (code_by rule plane window);
}

-- the code of the pixel (x, y), none where it has none or lies outside
unfoldable pub code_in : Codes → ℕ → ℕ → Option (List Bool)
code_in plane x y =
    if nat_lt x plane.width
    && nat_lt y plane.height then slice_index_or plane.codes (y * plane.width + x) None
    else None

-- what every plane of codes keeps
pub record IsCodes (plane : Codes) : Type 0 where
  pub width_in_range : IsSide plane.width
  pub height_in_range : IsSide plane.height
  pub window_in_range : IsWindow plane.window.width plane.window.height
  pub full : length plane.codes ≡ plane.width * plane.height
  pub lengths : (x y : ℕ) (code : List Bool) → code_in plane x y ≡ Some code
      → length code ≡ greatest_of plane.window
