-- Rows of what is met from pixels, which are found one from the other.
use Rattle.std.specs.Prelude.{◌≡◌, ℕ, ◌+◌, ◌-◌, ◌*◌, ◌/◌, ◌%◌, ◌<◌, List, length, slice_index_or}
use Rattle.std.specs.Prelude.{Option, None, option_and_then, Bool, false, ℤ}
use Rattle.std.specs.Option.{option_or}
use Rattle.sgm_base.specs.Columns.{left_column}
use Rattle.sgm_base.specs.Values.{Values}
use Rattle.sgm_energy.specs.declared.dir.Dir.{Dir}
use Rattle.sgm_energy.specs.declared.dir.Dir.TheVariants.{Right}
use Rattle.sgm_energy.specs.Rays.{pixel_at}
use Rattle.sgm_refine.specs.declared.met.TheConstants.{LEVEL, DOWNWARDS, UPWARDS}
use Rattle.sgm_refine.specs.Filling.{met_from, filled_value, is_mismatched}

-- what is met at a column of the row before: its value, or else what is met from there
abbrev pub carried_from : List (Option ℕ) → List (Option ℕ) → Option ℕ → Option ℕ
carried_from values carried column =
    option_and_then
    (λ q. option_or (slice_index_or values q None) (slice_index_or carried q None)) column

-- a row has what is met from each pixel of the row y in a direction
abbrev pub HoldsMet : Values → Dir → ℕ → List (Option ℕ) → Type 0
HoldsMet disparities dir y row = (x : ℕ) → x < disparities.width
    → slice_index_or row x None ≡ met_from disparities (pixel_at x y) dir

-- rows, one after the other for each of some directions, have it
abbrev pub HoldAllMet : Values → List Dir → ℕ → List (Option ℕ) → Type 0
HoldAllMet disparities dirs y rows =
    (i x : ℕ) → i < length dirs → x < disparities.width
    → slice_index_or rows (i * disparities.width + x) None
    ≡ met_from disparities (pixel_at x y) (slice_index_or dirs i Right)

-- n such rows, three for each row of an image, whose lowest row comes first
abbrev pub HoldMetUpwards : Values → List Dir → ℕ → List (Option ℕ) → Type 0
HoldMetUpwards disparities dirs n rows =
    (k x : ℕ) → k < n → x < disparities.width
    → slice_index_or rows (k * disparities.width + x) None
    ≡ met_from disparities (pixel_at x (disparities.height - 1 - k / 3))
    (slice_index_or dirs (k % 3) Right)

-- three lists have what is met from each pixel of the row y: on the row itself, from above, and
-- from below
pub record IsMetRow (disparities : Values) (y : ℕ) (level down up : List (Option ℕ)) : Type 0 where
  pub inside : y < disparities.height
  pub level_length : length level ≡ 2 * disparities.width
  pub down_length : length down ≡ 3 * disparities.width
  pub up_length : length up ≡ 3 * disparities.width
  pub level_met : HoldAllMet disparities LEVEL y level
  pub down_met : HoldAllMet disparities DOWNWARDS y down
  pub up_met : HoldAllMet disparities UPWARDS y up

-- the column of the left image that the match of the column q of a row of the right one gives
abbrev pub matched_column : ℕ → ℤ → List (Option ℕ) → ℕ → Option ℕ
matched_column width first matches q =
    option_and_then (λ value. left_column width first q (value / 16))
    (slice_index_or matches q None)

-- the first n rows of the entries hold what f gives for each pixel
abbrev pub HoldRows : ℕ → (ℕ → ℕ → Option ℕ) → ℕ → List (Option ℕ) → Type 0
HoldRows width f n entries = (r x : ℕ) → r < n → x < width
    → slice_index_or entries (r * width + x) None ≡ f x r

-- the value of the pixel of a column and a row in the filled map
abbrev pub filled_at : Values → Values → Values → ℤ → ℕ → ℕ → ℕ → Option ℕ
filled_at disparities matches left first count x y =
    filled_value disparities left (is_mismatched matches first count (pixel_at x y)) (pixel_at x y)

-- the marks of a row are at the pixels that are mismatched
abbrev pub AreMarks : Values → ℤ → ℕ → ℕ → List Bool → Type 0
AreMarks matches first count y marks =
    (x : ℕ) → x < matches.width
    → slice_index_or marks x false ≡ is_mismatched matches first count (pixel_at x y)
