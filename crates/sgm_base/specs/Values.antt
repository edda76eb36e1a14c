-- What contracts see of a plane and of a disparity map: a value or none for each pixel.
use Rattle.std.specs.Prelude.{◌≡◌, ℕ, ◌+◌, ◌*◌, ◌/◌, ◌%◌, ◌≤◌, List, length, map, Option, None}
use Rattle.std.specs.Prelude.{IfSome, All, take, drop, replicate, slice_index_or, nat_lt, ◌&&◌}
use Rattle.std.specs.Prelude.{if◌then◌else◌}
use Rattle.std.specs.List.{range_with_len}
use Rattle.sgm_base.specs.Sides.{IsSide}

-- the sides, and for each pixel, row by row, its value, or none where it is void
pub record Values : Type 0 where
  pub width : ℕ
  pub height : ℕ
  pub entries : List (Option ℕ)

-- what every plane and every map keeps
pub record IsValues (values : Values) : Type 0 where
  pub width_in_range : IsSide values.width
  pub height_in_range : IsSide values.height
  pub full : length values.entries ≡ values.width * values.height

-- these sides and these entries
abbrev pub values_of : ℕ → ℕ → List (Option ℕ) → Values
values_of width height entries = record { width = width; height = height; entries = entries }

-- every pixel is void
abbrev pub void : ℕ → ℕ → Values
void width height = values_of width height (replicate (width * height) None)

-- the entries of the row y
abbrev pub row_of : Values → ℕ → List (Option ℕ)
row_of values y = take values.width (drop (y * values.width) values.entries)

-- the value of the pixel (x, y), none where it is void or outside
abbrev pub value_at : Values → ℕ → ℕ → Option ℕ
value_at plane x y =
    if nat_lt x plane.width
    && nat_lt y plane.height then slice_index_or plane.entries (y * plane.width + x) None
    else None

-- what f gives for each pixel (x, y) of an image, row by row
unfoldable pub row_by_row : {X : Type 0} → ℕ → ℕ → (ℕ → ℕ → X) → List X
row_by_row width height f = map (λ k. f (k % width) (k / width)) (range_with_len 0 (width * height))

-- no entry has a value above most
abbrev pub AtMost : ℕ → List (Option ℕ) → Type 0
AtMost most entries = All (λ entry. IfSome entry (λ value. value ≤ most)) entries
