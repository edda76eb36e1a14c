-- How a plane of codes lies in memory: a word for each pixel, whose bits are its code, and whether
-- it has one. Each row stands from right to left, so that the right codes of one left pixel, index
-- by index, stand in order.
use Rattle.std.specs.Prelude.{◌≡◌, ℕ, ◌+◌, ◌-◌, ◌*◌, ◌/◌, ◌%◌, ◌^◌, ◌<◌, Bool, ◌==◌, nat_lt, false}
use Rattle.std.specs.Prelude.{if◌then◌else◌, List, [], ◌∷◌, ◌++◌, length, map, take, drop}
use Rattle.std.specs.Prelude.{slice_index, slice_index_or, Option, Some, None, unwrap_or, is_some}
use Rattle.std.specs.Prelude.{zero, suc}
use Rattle.std.specs.Int.{from_bool}
use Rattle.std.specs.List.{flat_map, list_all, range_with_len}
use Rattle.sgm_base.specs.Sides.{IsSide}
use Rattle.sgm_census.specs.Windows.{WindowSides, IsWindow, greatest_of}
use Rattle.sgm_census.specs.declared.rule.CostRule.{CostRule}
use Rattle.sgm_census.specs.Codes.{Codes, code_in}
use Rattle.sgm_base.specs.Values.{Values, row_by_row}

-- the lowest n bits of a word, the highest of them first
unfoldable pub bits_of : ℕ → ℕ → List Bool
bits_of zero word = []
bits_of (suc n) word = bits_of n (word / 2) ++ (word % 2 == 1) ∷ []

-- where the word of the pixel (x, y) stands
abbrev pub word_place : ℕ → ℕ → ℕ → ℕ
word_place width x y = y * width + (width - 1 - x)

-- the code of n bits that stands at a place
abbrev pub unpacked : ℕ → List ℕ → List Bool → ℕ → Option (List Bool)
unpacked n words present place =
    if slice_index_or present place false then Some (bits_of n (slice_index words place)) else None

-- the plane of codes in these words
abbrev pub codes_in : ℕ → ℕ → WindowSides → CostRule → List ℕ → List Bool → Codes
codes_in width height window rule words present =
    record {
      width = width;
      height = height;
      window = window;
      rule = rule;
      codes = row_by_row width height
          (λ x y. unpacked (greatest_of window) words present (word_place width x y));
    }

-- what every plane of codes keeps: its sides and window are in range, and each pixel has a word,
-- which has no bits but those of its code
pub record IsPacked (width height : ℕ) (window : WindowSides) (words : List ℕ)
    (present : List Bool) : Type 0 where
  pub width_in_range : IsSide width
  pub height_in_range : IsSide height
  pub window_in_range : IsWindow window.width window.height
  pub words_full : length words ≡ width * height
  pub present_full : length present ≡ width * height
  pub within : (k : ℕ) → slice_index words k < 2 ^ greatest_of window

-- the codes of the row y, from right to left
pub record HoldsCodes (plane : Codes) (y : ℕ) (words : List ℕ) (present : List Bool) : Type 0 where
  pub words_full : length words ≡ plane.width
  pub present_full : length present ≡ plane.width
  pub within : (k : ℕ) → slice_index words k < 2 ^ greatest_of plane.window
  pub each : (x : ℕ) → x < plane.width
      → code_in plane x y ≡ unpacked (greatest_of plane.window) words present (plane.width - 1 - x)

-- a word with a bit more for each truth value
abbrev pub pushed : ℕ → List Bool → ℕ
pushed word [] = word
pushed word (b ∷ bs) = pushed (2 * word + from_bool b) bs

-- for each value whether it is less than the centre
abbrev pub lesser : ℕ → List ℕ → List Bool
lesser centre values = map (λ v. nat_lt v centre) values

-- a word without its bit m
abbrev pub without : ℕ → ℕ → ℕ
without m word = word / 2 ^ (m + 1) * 2 ^ m + word % 2 ^ m

-- In rows so wide that stand one after the other: what stands in the window whose first column is
-- `from` and whose first row is `top`, row by row, and what stands in its centre
abbrev pub in_rows : {X : Type 0} → ℕ → List X → WindowSides → ℕ → ℕ → List X
in_rows width rows window from top =
    flat_map (λ j. take window.width (drop from (take width (drop ((top + j) * width) rows))))
    (range_with_len 0 window.height)

abbrev pub centre_in : ℕ → List ℕ → WindowSides → ℕ → ℕ → ℕ
centre_in width values window from top =
    slice_index values ((top + window.height / 2) * width + window.width / 2 + from)

-- the code of that window against a centre as a word, where void pixels count as 0
abbrev pub word_to : ℕ → List ℕ → WindowSides → ℕ → ℕ → ℕ → ℕ
word_to width values window centre from top =
    without (window.width * window.height / 2)
    (pushed 0 (lesser centre (in_rows width values window from top)))

-- the same against what stands in the window's centre
abbrev pub word_in : ℕ → List ℕ → WindowSides → ℕ → ℕ → ℕ
word_in width values window from top =
    word_to width values window (centre_in width values window from top) from top

-- whether all its values are there
abbrev pub all_in : ℕ → List Bool → WindowSides → ℕ → ℕ → Bool
all_in width there window from top = list_all (λ t. t) (in_rows width there window from top)

-- words of n bits
pub record HoldsSmall (n : ℕ) (words : List ℕ) : Type 0 where
  pub within : (k : ℕ) → slice_index words k < 2 ^ n

-- a plane's values, 0 where it is void, whether they are there, and its sides
pub record HoldsPlain (plane : Values) (values : List ℕ) (there : List Bool)
    (width height : ℕ) : Type 0 where
  pub values_are : values ≡ map (λ o. unwrap_or o 0) plane.entries
  pub there_are : there ≡ map is_some plane.entries
  pub width_is : width ≡ plane.width
  pub height_is : height ≡ plane.height

-- so many words, and their marks, in which no code stands yet
pub record AreBlank (n count : ℕ) (words : List ℕ) (present : List Bool) : Type 0 where
  pub words_full : length words ≡ count
  pub present_full : length present ≡ count
  pub within : (k : ℕ) → slice_index words k < 2 ^ n
  pub none : (k : ℕ) → slice_index_or present k false ≡ false

-- the words and marks of the codes that a function gives for the columns of a row
pub record HoldsEach (n width : ℕ) (code : ℕ → Option (List Bool)) (words : List ℕ)
    (present : List Bool) : Type 0 where
  pub each : (x : ℕ) → x < width → unpacked n words present (width - 1 - x) ≡ code x
  pub within : (k : ℕ) → slice_index words k < 2 ^ n

-- the words and marks of the codes that a function gives for the pixels of a plane
pub record HoldsAll (n width height : ℕ) (code : ℕ → ℕ
    → Option (List Bool)) (words : List ℕ) (present : List Bool) : Type 0 where
  pub each : (x y : ℕ) → x < width → y < height
      → unpacked n words present (word_place width x y) ≡ code x y
  pub within : (k : ℕ) → slice_index words k < 2 ^ n
