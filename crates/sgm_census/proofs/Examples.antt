-- What the definitions give for small planes.
use Rattle.std.proofs.Common.{◌≡◌, true, false, [], ◌∷◌, Some, None, pos, negsuc, refl}
use Rattle.sgm_base.specs.Values.{Values, values_of}
use Rattle.sgm_census.specs.Windows.{WindowSides}
use Rattle.sgm_lanes.specs.Middles.{middle_of}
use Rattle.sgm_census.specs.Codes.{Codes, less_than, window_values, code_at, code_in, middle_at, smoothed_code_at}
use Rattle.sgm_census.specs.Costs.{single_cost, census_cost}
use Rattle.sgm_census.specs.declared.rule.CostRule.TheVariants.{Plain, Smoothed}

abbrev three : WindowSides
three = record { width = 3; height = 3 }

abbrev small : Values
small = values_of 3 3 (Some 5 ∷ Some 4 ∷ Some 6 ∷ Some 5 ∷ Some 5 ∷ Some 9 ∷ Some 1 ∷ Some 5 ∷ Some 5 ∷ [])

-- the neighbours 5 4 6 5 9 1 5 5 of 5
code_of_centre : code_at small three 1 1 ≡ Some (false ∷ true ∷ false ∷ false ∷ false ∷ true ∷ false ∷ false ∷ [])
unfolding code_at less_than window_values
code_of_centre = refl

-- at the edge the window leaves the plane
code_of_corner : code_at small three 0 1 ≡ None
unfolding code_at less_than window_values
code_of_corner = refl

-- a void neighbour
code_beside_void : code_at (values_of 3 3 (Some 5 ∷ Some 4 ∷ Some 6 ∷ Some 5 ∷ Some 5 ∷ None ∷ Some 1 ∷ Some 5 ∷ Some 5 ∷ [])) three 1 1 ≡ None
unfolding code_at less_than window_values
code_beside_void = refl

-- codes of one row of three pixels: the last has none
abbrev left : Codes
left = record { width = 3; height = 1; window = three; rule = Plain; codes = Some (true ∷ false ∷ []) ∷ Some (true ∷ true ∷ []) ∷ None ∷ [] }

abbrev right : Codes
right = record { width = 3; height = 1; window = three; rule = Plain; codes = Some (false ∷ false ∷ []) ∷ Some (true ∷ false ∷ []) ∷ None ∷ [] }

-- the column x - first - d: 1 - 0 - 1 is 0, and 1 - 0 - 0 is 1
cost_of_index : census_cost left right (pos 0) 1 0 1 ∷ census_cost left right (pos 0) 1 0 0 ∷ [] ≡ 2 ∷ 1 ∷ []
unfolding census_cost single_cost code_in
cost_of_index = refl

-- the column 0 - (-1) - 0 is 1; no code at 2, and nothing at -1 and 3
cost_beyond : census_cost left right (negsuc 0) 0 0 0 ∷ census_cost left right (pos 0) 2 0 0 ∷ census_cost left right (pos 1) 0 0 0 ∷ census_cost left right (negsuc 1) 1 0 0 ∷ [] ≡ 0 ∷ 8 ∷ 8 ∷ 8 ∷ []
unfolding census_cost single_cost code_in
cost_beyond = refl

-- ---- the smoothed rule: planes of five by three pixels, of which the left one has no codes in its first column

abbrev five_left : Codes
five_left =
    record {
      width = 5;
      height = 3;
      window = three;
      rule = Smoothed;
      codes =
          None ∷
          Some (false ∷ false ∷ false ∷ false ∷ true ∷ false ∷ true ∷ true ∷ []) ∷
          Some (true ∷ true ∷ true ∷ false ∷ false ∷ true ∷ false ∷ true ∷ []) ∷
          Some (false ∷ false ∷ false ∷ true ∷ true ∷ false ∷ false ∷ false ∷ []) ∷
          Some (false ∷ false ∷ false ∷ false ∷ false ∷ false ∷ false ∷ false ∷ []) ∷
          None ∷
          Some (true ∷ false ∷ true ∷ true ∷ false ∷ true ∷ false ∷ true ∷ []) ∷
          Some (false ∷ true ∷ false ∷ true ∷ false ∷ false ∷ false ∷ false ∷ []) ∷
          Some (true ∷ true ∷ true ∷ false ∷ false ∷ true ∷ false ∷ true ∷ []) ∷
          Some (false ∷ true ∷ false ∷ true ∷ false ∷ false ∷ false ∷ false ∷ []) ∷
          None ∷
          Some (false ∷ true ∷ true ∷ false ∷ true ∷ false ∷ false ∷ false ∷ []) ∷
          Some (true ∷ false ∷ true ∷ false ∷ false ∷ true ∷ true ∷ true ∷ []) ∷
          Some (false ∷ true ∷ false ∷ true ∷ false ∷ false ∷ false ∷ false ∷ []) ∷
          Some (true ∷ false ∷ false ∷ false ∷ false ∷ false ∷ false ∷ false ∷ []) ∷ [];
    }

abbrev five_right : Codes
five_right =
    record {
      width = 5;
      height = 3;
      window = three;
      rule = Smoothed;
      codes =
          Some (false ∷ false ∷ false ∷ false ∷ false ∷ false ∷ false ∷ false ∷ []) ∷
          Some (false ∷ false ∷ false ∷ true ∷ true ∷ false ∷ false ∷ false ∷ []) ∷
          Some (true ∷ true ∷ true ∷ false ∷ false ∷ true ∷ false ∷ true ∷ []) ∷
          Some (false ∷ false ∷ false ∷ true ∷ false ∷ false ∷ true ∷ false ∷ []) ∷
          Some (false ∷ false ∷ false ∷ false ∷ false ∷ true ∷ false ∷ false ∷ []) ∷
          Some (false ∷ true ∷ false ∷ false ∷ true ∷ false ∷ false ∷ false ∷ []) ∷
          Some (true ∷ true ∷ true ∷ false ∷ false ∷ true ∷ false ∷ true ∷ []) ∷
          Some (false ∷ true ∷ false ∷ false ∷ true ∷ false ∷ false ∷ false ∷ []) ∷
          Some (true ∷ false ∷ true ∷ false ∷ true ∷ false ∷ false ∷ true ∷ []) ∷
          Some (false ∷ false ∷ false ∷ true ∷ false ∷ false ∷ true ∷ false ∷ []) ∷
          Some (false ∷ false ∷ true ∷ false ∷ false ∷ false ∷ false ∷ false ∷ []) ∷
          Some (false ∷ true ∷ false ∷ true ∷ false ∷ false ∷ false ∷ false ∷ []) ∷
          Some (true ∷ false ∷ true ∷ false ∷ false ∷ true ∷ true ∷ true ∷ []) ∷
          Some (false ∷ true ∷ true ∷ false ∷ true ∷ false ∷ false ∷ false ∷ []) ∷
          Some (false ∷ false ∷ false ∷ false ∷ false ∷ false ∷ false ∷ false ∷ []) ∷ [];
    }

-- three sevenths of eight are 3: they stand where a code is none and where the column is outside
single_costs : single_cost five_left five_right (pos 0) 0 0 0 ∷ single_cost five_left five_right (pos 2) 1 0 0 ∷ single_cost five_left five_right (pos 0) 1 0 0 ∷ single_cost five_left five_right (pos 0) 2 0 0 ∷ single_cost five_left five_right (pos 0) 3 0 0 ∷ single_cost five_left five_right (pos 0) 4 1 0 ∷ []
    ≡ 3 ∷ 3 ∷ 3 ∷ 0 ∷ 2 ∷ 2 ∷ []
unfolding single_cost code_in
single_costs = refl

next_singles : single_cost five_left five_right (pos 0) 1 0 1 ∷ single_cost five_left five_right (pos 0) 3 0 1 ∷ single_cost five_left five_right (pos 0) 4 0 1 ∷ single_cost five_left five_right (pos 0) 1 1 1 ∷ []
    ≡ 3 ∷ 7 ∷ 2 ∷ 7 ∷ []
unfolding single_cost code_in
next_singles = refl

-- the row 0 has the single costs 3 3 0 2 1, and 3 3 7 7 2 at the index 1
smoothed_costs : census_cost five_left five_right (pos 0) 0 0 0 ∷ census_cost five_left five_right (pos 0) 1 0 0 ∷ census_cost five_left five_right (pos 0) 2 0 0 ∷ census_cost five_left five_right (pos 0) 4 0 0 ∷ census_cost five_left five_right (pos 0) 4 1 0 ∷ []
    ≡ 3 ∷ 2 ∷ 1 ∷ 1 ∷ 2 ∷ []
unfolding census_cost single_cost code_in
smoothed_costs = refl

next_costs : census_cost five_left five_right (pos 0) 0 0 1 ∷ census_cost five_left five_right (pos 0) 1 0 1 ∷ census_cost five_left five_right (pos 0) 2 0 1 ∷ census_cost five_left five_right (pos 0) 3 0 1 ∷ census_cost five_left five_right (pos 0) 4 0 1 ∷ census_cost five_left five_right (pos 0) 0 1 1 ∷ census_cost five_left five_right (pos 0) 3 2 1 ∷ []
    ≡ 3 ∷ 4 ∷ 6 ∷ 5 ∷ 3 ∷ 4 ∷ 6 ∷ []
unfolding census_cost single_cost code_in
next_costs = refl

-- ---- smoothed codes of these planes' values

abbrev left_values : Values
left_values = values_of 5 3 (None ∷ Some 90 ∷ Some 10 ∷ Some 50 ∷ Some 20 ∷ None ∷ Some 15 ∷ Some 70 ∷ Some 30 ∷ Some 60 ∷ None ∷ Some 80 ∷ Some 35 ∷ Some 55 ∷ Some 45 ∷ [])

abbrev right_values : Values
right_values = values_of 5 3 (Some 12 ∷ Some 52 ∷ Some 22 ∷ Some 42 ∷ Some 30 ∷ Some 68 ∷ Some 33 ∷ Some 58 ∷ Some 27 ∷ Some 40 ∷ Some 37 ∷ Some 54 ∷ Some 47 ∷ Some 63 ∷ Some 20 ∷ [])

-- own values stand for what is void or outside
middles_of_left : middle_at left_values 1 0 90 ∷ middle_at left_values 2 0 10 ∷ middle_at left_values 1 1 15 ∷ middle_at left_values 4 2 45 ∷ [] ≡ 90 ∷ 50 ∷ 70 ∷ 45 ∷ []
unfolding middle_at middle_of
middles_of_left = refl

-- the corner of a plane, an inner pixel, and a void one
smoothed_codes_of_left : smoothed_code_at left_values three 1 0 ∷ smoothed_code_at left_values three 2 1 ∷ smoothed_code_at left_values three 0 1 ∷ []
    ≡ Some (false ∷ false ∷ false ∷ false ∷ true ∷ false ∷ true ∷ true ∷ []) ∷ Some (false ∷ true ∷ false ∷ true ∷ false ∷ false ∷ false ∷ false ∷ []) ∷ None ∷ []
unfolding smoothed_code_at middle_at middle_of window_values
smoothed_codes_of_left = refl

smoothed_codes_of_right : smoothed_code_at right_values three 0 1 ∷ smoothed_code_at right_values three 3 1 ∷ []
    ≡ Some (false ∷ true ∷ false ∷ false ∷ true ∷ false ∷ false ∷ false ∷ []) ∷ Some (true ∷ false ∷ true ∷ false ∷ true ∷ false ∷ false ∷ true ∷ []) ∷ []
unfolding smoothed_code_at middle_at middle_of window_values
smoothed_codes_of_right = refl
