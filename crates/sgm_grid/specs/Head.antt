-- Words of the reader's own functions over the head of a text. No public clause cites them.
use Rattle.std.specs.Prelude.{◌≡◌, ℕ, List, ◌∷◌, true, ℤ, pos, neg_ℤ, Option, Some, None, codes}
use Rattle.std.specs.Prelude.{unsigned_abs, if◌then◌else◌}
use Rattle.std.specs.Str.{str_eq_ignore_ascii_case}
use Rattle.sgm_base.specs.declared.limits.TheConstants.{MAX_GRID_LINES}
use Rattle.sgm_grid.specs.declared.asc_fault.AscFault.{AscFault}
use Rattle.sgm_grid.specs.declared.asc_fault.AscFault.TheVariants.{Word, Range, Count, Height}
use Rattle.sgm_grid.specs.declared.grid_spec.GridSpec.{GridSpec}
use Rattle.sgm_grid.specs.declared.head.Numbers.{Numbers}
use Rattle.sgm_grid.specs.declared.limits.TheConstants.{MAX_PLACE, MAX_CELL, NO_HEIGHT}
use Rattle.sgm_grid.specs.Asc.{Place, named, number, head, first_failing, is_kind, is_from_to}
use Rattle.sgm_grid.specs.Capped.{capped}
use Rattle.sgm_grid.specs.Numbers.{number_of}

-- a number, what stands for it, and the words behind it
pub record HasNumber (words : List (List ℕ)) (value : ℤ) (rest : List (List ℕ)) : Type 0 where
  pub word : List ℕ
  pub real : ℤ
  pub is : words ≡ word ∷ rest
  pub writes : number_of word ≡ Some real
  pub value_is : value ≡ capped real

-- a name and a number
pub record HasLine (name : List ℕ) (words : List (List ℕ)) (value : ℤ)
    (rest : List (List ℕ)) : Type 0 where
  pub word : List ℕ
  pub more : List (List ℕ)
  pub is : words ≡ word ∷ more
  pub named : str_eq_ignore_ascii_case word name ≡ true
  pub number : HasNumber more value rest

-- the least of these places whose word isn't of its kind
abbrev pub LacksAt : ℕ → List Place → List (List ℕ) → AscFault → Type 0
LacksAt at places words (Word k) = first_failing is_kind at places words ≡ Some k
LacksAt at places words (Range k) = ⊥
LacksAt at places words (Count have need) = ⊥
LacksAt at places words (Height index) = ⊥

-- no number, whatever its range and whatever stands behind it
abbrev pub LacksNumber : ℕ → List (List ℕ) → AscFault → Type 0
LacksNumber at words fault =
    (low high : ℤ) (places : List Place) → LacksAt at (number low high ∷ places) words fault

-- not that name, or no number behind it
abbrev pub LacksLine : List ℕ → ℕ → List (List ℕ) → AscFault → Type 0
LacksLine name at words fault =
    (low high : ℤ) (places : List Place)
    → LacksAt at (named name ∷ number low high ∷ places) words fault

-- the six numbers of a head, what stands for each, and the words behind it
pub record HasNumbers (words : List (List ℕ)) (numbers : Numbers)
    (rest : List (List ℕ)) : Type 0 where
  pub behind_cols : List (List ℕ)
  pub behind_rows : List (List ℕ)
  pub behind_west : List (List ℕ)
  pub behind_south : List (List ℕ)
  pub behind_cell : List (List ℕ)
  pub cols : HasLine (codes "ncols") words numbers.cols behind_cols
  pub rows : HasLine (codes "nrows") behind_cols numbers.rows behind_rows
  pub west : HasLine (codes "xllcorner") behind_rows numbers.west behind_west
  pub south : HasLine (codes "yllcorner") behind_west numbers.south behind_south
  pub cell : HasLine (codes "cellsize") behind_south numbers.cell behind_cell
  pub no_height : HasLine (codes "nodata_value") behind_cell numbers.no_height rest

-- the least place of a head whose word isn't of its kind
abbrev pub IsWordFault : List (List ℕ) → AscFault → Type 0
IsWordFault words fault = LacksAt 0 head words fault

-- the place, unless the number is in its range
abbrev pub out_of : ℤ → ℤ → ℤ → ℕ → Option ℕ → Option ℕ
out_of low high value at others = if is_from_to low high value then others else Some at

-- the least place of a number out of its range
unfoldable pub first_out : Numbers → Option ℕ
first_out numbers =
    out_of (pos 1) (pos MAX_GRID_LINES) numbers.cols 1 (
    out_of (pos 1) (pos MAX_GRID_LINES) numbers.rows 3 (
    out_of (neg_ℤ MAX_PLACE) MAX_PLACE numbers.west 5 (
    out_of (neg_ℤ MAX_PLACE) MAX_PLACE numbers.south 7 (
    out_of (pos 1) MAX_CELL numbers.cell 9 (
    out_of NO_HEIGHT NO_HEIGHT numbers.no_height 11 None)))))

abbrev pub IsRangeFault : Numbers → AscFault → Type 0
IsRangeFault numbers fault = (at : ℕ) × (fault ≡ Range at) × (first_out numbers ≡ Some at)

-- the ranges of which the numbers tell
abbrev pub spec_told : Numbers → GridSpec
spec_told numbers = record {
  west = numbers.west;
  south = numbers.south;
  cell = numbers.cell;
  cols = unsigned_abs numbers.cols;
  rows = unsigned_abs numbers.rows;
}
