-- The same over rows: a row of sums, in which that of the column x and the index d stands at x *
-- count + d, and a row each of indices and of values.
use Rattle.std.specs.Prelude.{◌≡◌, ℕ, ◌+◌, ◌*◌, ◌<◌, List, length, slice_index, slice_index_or}
use Rattle.std.specs.Prelude.{slice_get, unwrap_or, Option, Some, None, option_and_then, option_map}
use Rattle.std.specs.Prelude.{ℤ}
use Rattle.sgm_base.specs.Columns.{left_column, right_column}
use Rattle.sgm_energy.specs.Rays.{pixel_at, Problem}
use Rattle.sgm_select.specs.Selection.{least_index, least_of, lies, base, matched, checked}
use Rattle.sgm_select.specs.Selection.{in_sixteenths}

-- the sum of the column x and the index d
abbrev pub sum_in : List ℕ → ℕ → ℕ → ℕ → ℕ
sum_in sums count x d = slice_index sums (x * count + d)

-- the least index at which the sum of the column x is least
unfoldable pub base_in : List ℕ → ℕ → ℕ → ℕ
base_in sums count x = least_of (sum_in sums count x) count

-- the least index at which the sum of the column that it gives to q is least, of those whose column
-- lies in the row
unfoldable pub matched_in : List ℕ → ℕ → ℤ → ℕ → ℕ → Option ℕ
matched_in sums width first count q =
    least_index (lies width first q)
    (λ d. sum_in sums count (unwrap_or (left_column width first q d) 0) d) count

-- the disparity of the column x, from the sums, the indices of both images and their values
unfoldable pub checked_in : List ℕ → ℕ → List ℕ → List (Option ℕ) → List (Option ℕ)
    → List (Option ℕ) → ℤ → ℕ → Option ℕ
checked_in sums count bases matches left right first x =
    let b = slice_index bases x in
    option_map (in_sixteenths (sum_in sums count x) count)
    (option_and_then
    (λ q. checked b (slice_index_or left x None) (slice_index_or right q None)
    (slice_index_or matches q None))
    (right_column (length bases) first x b))

-- the row y of the indices of the left image
pub record HoldsBases (g : Problem) (y : ℕ) (bases : List ℕ) : Type 0 where
  pub whole : length bases ≡ g.width
  pub each : (x : ℕ) → x < g.width → slice_index bases x ≡ base g (pixel_at x y)

-- the row y of the indices of the right image
pub record HoldsMatches (g : Problem) (first : ℤ) (y : ℕ) (matches : List (Option ℕ)) : Type 0 where
  pub whole : length matches ≡ g.width
  pub each : (q : ℕ) → q < g.width → slice_get matches q ≡ Some (matched g first q y)
