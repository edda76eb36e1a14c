-- The keys of the regions: a list of objects, each a rectangle of the grid's cells with its name,
-- its base and, from version 3 of the calibration on, the rises of the base and an outline.
use Rattle.std.specs.Prelude.{ℕ, suc, pos, ◌≤◌, if◌then◌else◌, nat_le, List, [], ◌∷◌, length, map}
use Rattle.std.specs.Prelude.{Option, Some, None, option_map, All}
use Rattle.serde_json.specs.Data.{Data}
use Rattle.serde_json.specs.Find.{get, as_array}
use Rattle.sgm_base.specs.declared.limits.TheConstants.{MAX_REGIONS}
use Rattle.sgm_grid.specs.declared.grid_spec.GridSpec.{GridSpec}
use Rattle.sgm_report.specs.Areas.{Area, IsArea, has_base}
use Rattle.sgm_report.specs.Outlines.{Corner}
use Rattle.sgm_report.specs.declared.base.BasePlane.{BasePlane}
use Rattle.sgm_calib.specs.declared.keys.CalibFault.{CalibFault}
use Rattle.sgm_calib.specs.declared.keys.CalibFault.TheVariants.{Range}
use Rattle.sgm_calib.specs.declared.place.Place.{Place}
use Rattle.sgm_calib.specs.declared.place.TheConstants.{PLAIN}
use Rattle.sgm_calib.specs.declared.regions.RegionNumbers.{RegionNumbers}
use Rattle.sgm_calib.specs.declared.sort.Sort.{Sort}
use Rattle.sgm_calib.specs.Table as table
use Rattle.sgm_calib.specs.Table.{grid_of}
use Rattle.sgm_calib.specs.Rows.{Row, key_at, number_of, count_of, is_since}
use Rattle.sgm_calib.specs.Checks.{first_of, object_fault, type_fault, key_fault, keys_fault}
use Rattle.sgm_calib.specs.Checks.{elements, numbers, sort_of, value_of, text_of}
use Rattle.sgm_calib.specs.WarpKeys.{pairs}

-- the place of a region of a grid
abbrev pub region_place : GridSpec → ℕ → Place
region_place grid index = record { shift = 0; index = index; cols = grid.cols; rows = grid.rows }

-- the keys of a region behind its name, but for those of later versions
abbrev pub region_number_keys : List Row
region_number_keys =
    table.region_col ∷ table.region_row ∷ table.region_cols ∷ table.region_rows ∷ table.region_base
    ∷ []

-- ---- the region that an object without a fault is; what it says goes by the version

-- its base, which is level in the versions before 3
abbrev pub base_of : Sort → Data → BasePlane
base_of sort d = record {
  height = number_of table.region_base d;
  rise_east = if is_since 3 sort then number_of table.region_rise_east d else pos 0;
  rise_north = if is_since 3 sort then number_of table.region_rise_north d else pos 0;
}

-- the corners of its outline, where it has one
unfoldable pub outline_in : Data → Option (List Corner)
outline_in d = option_map (λ list. pairs (numbers list)) (get table.region_outline.name d)

-- the region with that name, those numbers and that outline
abbrev pub area_of : List ℕ → RegionNumbers → Option (List Corner) → Area
area_of name numbers outline = record {
  name = name;
  col = numbers.col;
  row = numbers.row;
  cols = numbers.cols;
  rows = numbers.rows;
  base = numbers.base;
  outline = outline;
}

abbrev pub numbers_of : Sort → Data → RegionNumbers
numbers_of sort d = record {
  col = count_of table.region_col d;
  row = count_of table.region_row d;
  cols = count_of table.region_cols d;
  rows = count_of table.region_rows d;
  base = base_of sort d;
}

unfoldable pub area_in : Sort → Data → Area
area_in sort d = area_of (text_of table.region_name d) (numbers_of sort d) (outline_in d)

-- the regions of a value, where it has them
unfoldable pub regions_in : Data → Option (List Area)
regions_in top =
    option_map (λ d. map (area_in (sort_of top)) (elements d)) (get table.region_list.name top)

-- areas of a grid, not too many
pub record AreRegionsOf (grid : GridSpec) (areas : List Area) : Type 0 where
  pub few : length areas ≤ MAX_REGIONS
  pub inside : All (IsArea grid) areas

-- ---- what is wrong with the regions

-- what is wrong with the rises of a region's base, from version 3 on
abbrev pub rises_fault : Sort → Place → Data → Option CalibFault
rises_fault sort place d = if is_since 3 sort then keys_fault place d table.rise_keys else None

-- what is wrong with its base as a whole: it leaves its range over the region's cells
unfoldable pub base_fault : Sort → GridSpec → Place → Data → Option CalibFault
base_fault sort grid place d =
    if has_base grid (area_in sort d) then None
    else Some (Range (key_at place table.region_rise_north))

-- what is wrong with its outline, where it has one
abbrev pub outline_fault_of : Place → Data → Option Data → Option CalibFault
outline_fault_of place d None = None
outline_fault_of place d (Some list) = key_fault place d table.region_outline

unfoldable pub outline_fault : Place → Data → Option CalibFault
outline_fault place d = outline_fault_of place d (get table.region_outline.name d)

-- what is wrong with a region itself and its numbers: its type, an unknown name, its keys
unfoldable pub parts_fault : Sort → Place → Data → Option CalibFault
parts_fault sort place d =
    first_of (
    object_fault place table.region sort d
    ∷ keys_fault place d table.region_keys
    ∷ rises_fault sort place d
    ∷ [])

-- what is wrong with a region: that, then its base as a whole, then its outline
unfoldable pub region_fault : Sort → GridSpec → Place → Data → Option CalibFault
region_fault sort grid place d =
    first_of (parts_fault sort place d ∷ base_fault sort grid place d ∷ outline_fault place d ∷ [])

-- what is wrong with the regions from that place of the list on
abbrev pub region_faults : Sort → GridSpec → ℕ → List Data → List (Option CalibFault)
region_faults sort grid index [] = []
region_faults sort grid index (d ∷ ds) =
    region_fault sort grid (region_place grid index) d ∷ region_faults sort grid (suc index) ds

abbrev pub size_fault : ℕ → Option CalibFault
size_fault count =
    if nat_le count MAX_REGIONS then None else Some (Range (key_at PLAIN table.region_list))

abbrev pub regions_fault_of : Sort → GridSpec → Option Data → Option CalibFault
regions_fault_of sort grid None = None
regions_fault_of sort grid (Some d) =
    first_of (
    type_fault (key_at PLAIN table.region_list) (as_array d)
    ∷ size_fault (length (elements d))
    ∷ region_faults sort grid 0 (elements d))

-- what is wrong with the regions of a value: their type, their count, each of them
unfoldable pub regions_fault : Data → Option CalibFault
regions_fault top =
    let grid = grid_of (value_of table.grid top) in
    regions_fault_of (sort_of top) grid (get table.region_list.name top)
