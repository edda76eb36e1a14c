-- The reading of a grid's text: the grid that it tells, or the first fault.
use Rattle.std.specs.Prelude.{◌≡◌, ⊤, ℕ, ◌+◌, ◌*◌, ◌==◌, ◌&&◌, List, [], ◌∷◌, length, drop, codes}
use Rattle.std.specs.Prelude.{Bool, true, ℤ, pos, neg_ℤ, int_le, slice_get, unwrap_or, is_some}
use Rattle.std.specs.Prelude.{unsigned_abs, Option, Some, None, Result, Ok, Err, if◌then◌else◌}
use Rattle.std.specs.Option.{option_and_then}
use Rattle.std.specs.Ordering.{int_eq}
use Rattle.std.specs.Str.{str_eq_ignore_ascii_case}
use Rattle.sgm_base.specs.declared.limits.TheConstants.{MAX_GRID_LINES}
use Rattle.sgm_text.specs.Words.{words_of}
use Rattle.sgm_grid.specs.declared.asc_fault.AscError.{AscError}
use Rattle.sgm_grid.specs.declared.asc_fault.AscError.TheVariants.{Fault, NoMemory}
use Rattle.sgm_grid.specs.declared.asc_fault.AscFault.{AscFault}
use Rattle.sgm_grid.specs.declared.asc_fault.AscFault.TheVariants.{Word, Range, Count, Height}
use Rattle.sgm_grid.specs.declared.grid_spec.GridSpec.{GridSpec}
use Rattle.sgm_grid.specs.declared.limits.TheConstants.{MAX_PLACE, MAX_CELL, MAX_HEIGHT, NO_HEIGHT}
use Rattle.sgm_grid.specs.Cells.{Cells, cells_of}
use Rattle.sgm_grid.specs.Numbers.{number_of}

-- what a word of the head has to be: that name in any case of its letters, or a number from the one
-- to the other
pub data Place : Type 0 where
  named : List ℕ → Place
  number : ℤ → ℤ → Place

-- the twelve words that stand before the heights
abbrev pub head : List Place
head = named (codes "ncols") ∷ number (pos 1) (pos MAX_GRID_LINES)
    ∷ named (codes "nrows") ∷ number (pos 1) (pos MAX_GRID_LINES)
    ∷ named (codes "xllcorner") ∷ number (neg_ℤ MAX_PLACE) MAX_PLACE
    ∷ named (codes "yllcorner") ∷ number (neg_ℤ MAX_PLACE) MAX_PLACE
    ∷ named (codes "cellsize") ∷ number (pos 1) MAX_CELL
    ∷ named (codes "nodata_value") ∷ number NO_HEIGHT NO_HEIGHT ∷ []

-- a word is the name of its place, or a number of any size
abbrev pub is_kind : Place → List ℕ → Bool
is_kind (named name) word = str_eq_ignore_ascii_case word name
is_kind (number low high) word = is_some (number_of word)

abbrev pub is_from_to : ℤ → ℤ → ℤ → Bool
is_from_to low high z = int_le low z && int_le z high

-- a number is in the range of its place
abbrev pub is_in_range : Place → List ℕ → Bool
is_in_range (named name) word = true
is_in_range (number low high) word = is_from_to low high (unwrap_or (number_of word) (pos 0))

-- the least place, counted on from `at`, whose word is missing or doesn't pass the test
abbrev pub first_failing : (Place → List ℕ → Bool) → ℕ → List Place → List (List ℕ) → Option ℕ
first_failing passes at [] words = None
first_failing passes at (place ∷ places) [] = Some at
first_failing passes at (place ∷ places) (word ∷ words) =
    if passes place word then first_failing passes (at + 1) places words else Some at

-- the number that the word at that place writes
abbrev pub number_at : List (List ℕ) → ℕ → ℤ
number_at words at = unwrap_or (option_and_then number_of (slice_get words at)) (pos 0)

-- the ranges that the head tells
abbrev pub spec_in : List (List ℕ) → GridSpec
spec_in words = record {
  west = number_at words 5;
  south = number_at words 7;
  cell = number_at words 9;
  cols = unsigned_abs (number_at words 1);
  rows = unsigned_abs (number_at words 3);
}

-- the height that a number tells, none of an empty cell; or none where it tells no cell
abbrev pub cell_told : ℤ → Option (Option ℤ)
cell_told z =
    if int_eq z NO_HEIGHT then Some None
    else (if is_from_to (neg_ℤ MAX_HEIGHT) MAX_HEIGHT z then Some (Some z) else None)

abbrev pub cell_in : List ℕ → Option (Option ℤ)
cell_in word = option_and_then cell_told (number_of word)

-- a cell before others, which stand behind the word with that index
abbrev pub with_cell : ℕ → Option (Option ℤ) → Result (List (Option ℤ)) AscFault
    → Result (List (Option ℤ)) AscFault
with_cell index None others = Err (Height index)
with_cell index (Some cell) (Ok cells) = Ok (cell ∷ cells)
with_cell index (Some cell) (Err fault) = Err fault

-- the heights that words tell, counted on from `index`, or the least index of a word that tells
-- none
abbrev pub heights_in : ℕ → List (List ℕ) → Result (List (Option ℤ)) AscFault
heights_in index [] = Ok []
heights_in index (word ∷ words) = with_cell index (cell_in word) (heights_in (index + 1) words)

abbrev pub with_spec : GridSpec → Result (List (Option ℤ)) AscFault → Result Cells AscFault
with_spec spec (Ok heights) = Ok (cells_of spec heights)
with_spec spec (Err fault) = Err fault

-- the grid of those ranges whose heights the words tell, or their first fault
unfoldable pub grid_of : GridSpec → List (List ℕ) → Result Cells AscFault
grid_of spec words =
    if length words == spec.cols * spec.rows then with_spec spec (heights_in 0 words)
    else Err (Count (length words) (spec.cols * spec.rows))

-- the first of a fault of the words, a fault of the ranges, and what there is otherwise
abbrev pub first_of : Option ℕ → Option ℕ → Result Cells AscFault → Result Cells AscFault
first_of (Some at) range otherwise = Err (Word at)
first_of None (Some at) otherwise = Err (Range at)
first_of None None otherwise = otherwise

-- the grid that words tell, or their first fault
unfoldable pub told_by : List (List ℕ) → Result Cells AscFault
told_by words =
    first_of (first_failing is_kind 0 head words) (first_failing is_in_range 0 head words)
    (grid_of (spec_in words) (drop 12 words))

-- the same of a text
abbrev pub asc_reading : List ℕ → Result Cells AscFault
asc_reading bytes = told_by (words_of bytes)

-- what a reader answers that gives this reading, unless memory ran out
abbrev pub Gives : Result Cells AscFault → Result Cells AscError → Type 0
Gives reading (Ok grid) = reading ≡ Ok grid
Gives reading (Err (Fault fault)) = reading ≡ Err fault
Gives reading (Err NoMemory) = ⊤
