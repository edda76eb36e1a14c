-- What stands between a plane and its smoothed codes.
use Rattle.std.specs.Prelude.{◌≡◌, ℕ, ◌+◌, ◌-◌, ◌*◌, ◌/◌, ◌<◌, ◌≤◌, Bool, true, nat_lt, List, map}
use Rattle.std.specs.Prelude.{slice_index, Some, unwrap_or}
use Rattle.sgm_base.specs.Values.{Values, value_at}
use Rattle.sgm_census.specs.Windows.{WindowSides}
use Rattle.sgm_census.specs.Codes.{middle_at, window_values}
use Rattle.sgm_census.specs.Packed.{all_in, pushed, without}

-- the middles of the row y, where its pixels aren't void
pub record HasMiddles (plane : Values) (y : ℕ) (middles : List ℕ) : Type 0 where
  pub each : (x own : ℕ) → x < plane.width → value_at plane x y ≡ Some own
      → slice_index middles x ≡ middle_at plane x y own

-- the code of a pixel as a word, each value that is missing in its window replaced by own
abbrev pub word_by : Values → WindowSides → ℕ → ℕ → ℕ → ℕ → ℕ
word_by plane window x y own middle =
    without (window.width * window.height / 2)
    (pushed 0 (map (λ o. nat_lt (unwrap_or o own) middle) (window_values plane window x y)))

-- the window round the pixel (x, y) lies in a plane of these sides
pub record IsInside (width height : ℕ) (window : WindowSides) (x y : ℕ) : Type 0 where
  pub left : window.width / 2 ≤ x
  pub right : x + window.width / 2 < width
  pub top : window.height / 2 ≤ y
  pub bottom : y + window.height / 2 < height

-- it does, and all its values are there
pub record IsWhole (width height : ℕ) (there : List Bool) (window : WindowSides)
    (x y : ℕ) : Type 0 where
  pub inside : IsInside width height window x y
  pub all : all_in width there window (x - window.width / 2) (y - window.height / 2) ≡ true
