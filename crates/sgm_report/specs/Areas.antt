-- The regions of a grid, and what may be their names.
use Rattle.std.specs.Prelude.{ℕ, ◌+◌, ◌-◌, ◌≤◌, ◌==◌, ◌&&◌, ◌||◌, Bool, true, nat_le, List, [], ◌∷◌}
use Rattle.std.specs.Prelude.{length, ℤ, Option, None, Some, IfSome, IsTrue}
use Rattle.std.specs.Char.{is_ascii_alphanumeric}
use Rattle.std.specs.List.{list_all}
use Rattle.sgm_grid.specs.declared.grid_spec.GridSpec.{GridSpec}
use Rattle.sgm_report.specs.Bases.{base_at, is_height, IsBasePlane}
use Rattle.sgm_report.specs.Outlines.{Corner, centre_east, centre_north, encloses, IsOutline}
use Rattle.sgm_report.specs.declared.base.BasePlane.{BasePlane}

-- a region: the bytes of its name, its westernmost column and its northernmost row, how many
-- columns and rows it has, the base from which its volumes are counted, and the outline that bounds
-- it within them, if any; rows count from the north
pub record Area : Type 0 where
  pub name : List ℕ
  pub col : ℕ
  pub row : ℕ
  pub cols : ℕ
  pub rows : ℕ
  pub base : BasePlane
  pub outline : Option (List Corner)

-- an ASCII letter, a digit, a space, or one of _ - .
abbrev pub is_name_byte : ℕ → Bool
is_name_byte byte = is_ascii_alphanumeric byte || (byte == 32) || (byte == 95) || (byte == 45)
    || (byte == 46)

-- whether those bytes may be a region's name
abbrev pub is_region_name : List ℕ → Bool
is_region_name name = nat_le 1 (length name) && nat_le (length name) 64
    && list_all is_name_byte name

abbrev pub IsRegionName : List ℕ → Type 0
IsRegionName name = IsTrue (is_region_name name)

-- a region that has a cell, and all of whose cells are those of the grid
pub record LiesIn (spec : GridSpec) (area : Area) : Type 0 where
  pub some_cols : 1 ≤ area.cols
  pub some_rows : 1 ≤ area.rows
  pub within_cols : area.col + area.cols ≤ spec.cols
  pub within_rows : area.row + area.rows ≤ spec.rows

-- the base at the four corner cells of a region
abbrev pub corner_bases : GridSpec → Area → List ℤ
corner_bases spec area =
    let east = area.col + area.cols - 1 in
    let south = area.row + area.rows - 1 in
    base_at spec area.base area.col area.row ∷ base_at spec area.base east area.row
    ∷ base_at spec area.base area.col south ∷ base_at spec area.base east south ∷ []

-- whether the base is in the range of a height there, and so at all its cells, as a plane never
-- turns
unfoldable pub has_base : GridSpec → Area → Bool
has_base spec area = list_all is_height (corner_bases spec area)

-- whether the cell in that column and in that row from the north lies inside
abbrev pub lies_inside : GridSpec → Option (List Corner) → ℕ → ℕ → Bool
lies_inside spec None col row = true
lies_inside spec (Some corners) col row =
    encloses corners (centre_east spec col) (centre_north spec row)

-- a region of a grid, with a name that it may have, a base in its range and an outline that is one
pub record IsArea (spec : GridSpec) (area : Area) : Type 0 where
  pub named : IsRegionName area.name
  pub inside : LiesIn spec area
  pub base_in_range : IsBasePlane area.base
  pub based : IsTrue (has_base spec area)
  pub outlined : IfSome area.outline IsOutline
