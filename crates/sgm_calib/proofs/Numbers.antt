-- What whole numbers without a fault are: each is there, and in its range.
use Rattle.std.proofs.Common.{◌≡◌, ℕ, ◌≤◌, ℤ, pos, negsuc, ◌-ℤ◌, ◌≤ℤ◌, Bool, true, false, if◌then◌else◌, List, [], ◌∷◌, Option, Some, None, Ok, Err, unwrap_or, option_and_then, lit≤, refl, sym, subst, arith}
use Rattle.std.proofs.lemmas.Bool.{and_parts}
use Rattle.std.proofs.lemmas.Int.{ints}
use Rattle.std.specs.Int.{w64}
use mir.Val.{SFits}
use Rattle.std.specs.Prelude.{int_le, neg_ℤ, unsigned_abs}
use lib.Signed.{le_z_yes}
use lib.Dec.{T}
use Rattle.std.specs.Option.{option_or}
use Rattle.std.specs.Result.{result_err}
use Rattle.serde_json.specs.Data.{Data}
use Rattle.serde_json.specs.Find.{get}
use Rattle.sgm_base.specs.Ranges.{IsFromTo}
use Rattle.sgm_height.specs.Camera.{IsCamera}
use Rattle.sgm_grid.specs.Cells.{IsGridSpec}
use Rattle.sgm_calib.specs.declared.keys.CalibFault.{CalibFault}
use Rattle.sgm_calib.specs.declared.keys.CalibFault.TheVariants.{Range}
use Rattle.sgm_calib.specs.declared.keys.Key.{Key}
use Rattle.sgm_calib.specs.declared.place.Place.{Place}
use Rattle.sgm_calib.specs.declared.place.TheConstants.{PLAIN}
use Rattle.sgm_calib.specs.Rows.{Row, whole, key_at, number_of, IsCount, least, greatest, is_in_range}
use Rattle.sgm_calib.specs.Checks.{or_wrong_type, or_missing, or_out_of_range, number_in, key_fault, keys_fault}
use Rattle.sgm_rectify.specs.declared.limits.TheConstants.{MIN_STEP, MAX_STEP, MIN_NODE_COUNT, MAX_NODE_COUNT}
use Rattle.sgm_grid.specs.declared.limits.TheConstants.{MAX_HEIGHT, MAX_CELL, MAX_PLACE}
use Rattle.sgm_base.specs.declared.limits.TheConstants.{MAX_GRID_LINES}
use Rattle.sgm_calib.specs.WarpKeys.{shape_keys}
use Rattle.sgm_calib.specs.RegionKeys.{region_number_keys}
use Rattle.sgm_calib.specs.Table as table
use Rattle.sgm_calib.specs.Table.{camera_of, grid_of}

tested : (b : Bool) (z : ℤ) (fault : CalibFault) → result_err (if b then Ok z else Err fault) ≡ None → b ≡ true
tested true z fault right = refl
tested false z fault right = absurd (cc)

of_number : (fault : CalibFault) (key : Key) (range : ℤ → Bool) (found : Option ℤ)
    → result_err (or_out_of_range fault range (or_wrong_type key found)) ≡ None → range (unwrap_or found (pos 0)) ≡ true
of_number fault key range None right = absurd (cc)
of_number fault key range (Some z) right = tested (range z) z fault right

of_value : (fault : CalibFault) (key : Key) (range : ℤ → Bool) (found : Option Data)
    → result_err (or_out_of_range fault range (or_missing key whole found)) ≡ None
    → range (unwrap_or (option_and_then whole found) (pos 0)) ≡ true
of_value fault key range None right = absurd (cc)
of_value fault key range (Some d) right = of_number fault key range (whole d) right

in_range : (place : Place) (d : Data) (row : Row) → result_err (number_in place d row) ≡ None
    → is_in_range row.form place d (number_of row d) ≡ true
unfolding number_in
in_range place d row right = of_value (Range (key_at place row)) (key_at place row) (is_in_range row.form place d) (get row.name d) right

at_most : (a b : ℤ) → int_le a b ≡ true → a ≤ℤ b
at_most a b is = le_z_yes (subst T (sym is) tt)

-- a number without a fault is from the least to the greatest
pub from_to : (place : Place) (d : Data) (row : Row) → result_err (number_in place d row) ≡ None
    → IsFromTo (least row.form d) (greatest row.form place d) (number_of row d)
from_to place d row right =
    let range = and_parts _ _ (in_range place d row right) in
    let ends = and_parts _ _ range.0 in
    (at_most _ _ ends.0, at_most _ _ ends.1)

pub both-right : (a b : Option CalibFault) → option_or a b ≡ None → (a ≡ None) × (b ≡ None)
both-right None b right = (refl, right)
both-right (Some fault) b right = absurd (cc)

-- where keys have no fault the first has none, and the later ones
pub parted : (place : Place) (d : Data) (row : Row) (rows : List Row) → keys_fault place d (row ∷ rows) ≡ None
    → (key_fault place d row ≡ None) × (keys_fault place d rows ≡ None)
parted place d row rows right = both-right (key_fault place d row) (keys_fault place d rows) right

-- a camera whose keys have no fault keeps its ranges
pub camera_kept : (d : Data) → keys_fault PLAIN d table.camera_keys ≡ None → IsCamera (camera_of d)
unfolding camera_of
camera_kept d right =
    let focal = parted PLAIN d table.focal (table.baseline ∷ table.cx ∷ table.cy ∷ table.doffs ∷ table.mount ∷ table.near ∷ table.far ∷ []) right in
    let baseline = parted PLAIN d table.baseline (table.cx ∷ table.cy ∷ table.doffs ∷ table.mount ∷ table.near ∷ table.far ∷ []) focal.1 in
    let cx = parted PLAIN d table.cx (table.cy ∷ table.doffs ∷ table.mount ∷ table.near ∷ table.far ∷ []) baseline.1 in
    let cy = parted PLAIN d table.cy (table.doffs ∷ table.mount ∷ table.near ∷ table.far ∷ []) cx.1 in
    let doffs = parted PLAIN d table.doffs (table.mount ∷ table.near ∷ table.far ∷ []) cy.1 in
    let mount = parted PLAIN d table.mount (table.near ∷ table.far ∷ []) doffs.1 in
    let near = parted PLAIN d table.near (table.far ∷ []) mount.1 in
    let far = parted PLAIN d table.far ([]) near.1 in
    record {
      focal_in_range = from_to PLAIN d table.focal focal.0;
      baseline_in_range = from_to PLAIN d table.baseline baseline.0;
      cx_in_range = from_to PLAIN d table.cx cx.0;
      cy_in_range = from_to PLAIN d table.cy cy.0;
      doffs_in_range = from_to PLAIN d table.doffs doffs.0;
      mount_in_range = from_to PLAIN d table.mount mount.0;
      near_in_range = from_to PLAIN d table.near near.0;
      far_in_range = from_to PLAIN d table.far far.0;
    }

-- a number that isn't negative, between two
pub count_from_to : (z : ℤ) (least most : ℕ) → IsFromTo (pos least) (pos most) z → (least ≤ unsigned_abs z) × (unsigned_abs z ≤ most)
count_from_to (pos a) least most (low, high) = (first_of (omega (arith, ints, low), grind (arith, ints, low)), first_of (omega (arith, ints, high), grind (arith, ints, high)))
count_from_to (negsuc a) least most (low, high) = absurd (first_of (omega (arith, ints, low), grind (arith, ints, low)))

-- ---- numbers that aren't negative

counted : (z : ℤ) (n : ℕ) → pos 0 ≤ℤ z → z ≤ℤ pos n → n ≤ 4294967295 → IsCount z
counted (pos a) n low high small = (low, first_of (omega (arith, ints, high, small), grind (arith, ints, high, small)))
counted (negsuc a) n low high small = absurd (first_of (omega (arith, ints, low), grind (arith, ints, low)))

from_some : (z : ℤ) (least : ℕ) → pos least ≤ℤ z → pos 0 ≤ℤ z
from_some (pos a) least low = first_of (omega (arith, ints, low), grind (arith, ints, low))
from_some (negsuc a) least low = absurd (first_of (omega (arith, ints, low), grind (arith, ints, low)))

less_some : (z first : ℤ) (n : ℕ) → pos 0 ≤ℤ z → pos 0 ≤ℤ first → z ≤ℤ (pos n -ℤ first) → z ≤ℤ pos n
less_some (pos a) (pos b) n low some high = first_of (omega (arith, ints, high), grind (arith, ints, high))
less_some (negsuc a) first n low some high = absurd (first_of (omega (arith, ints, low), grind (arith, ints, low)))
less_some (pos a) (negsuc b) n low some high = absurd (first_of (omega (arith, ints, some), grind (arith, ints, some)))

-- the ranges of a grid whose keys have no fault
pub record Gridded (d : Data) : Type 0 where
  pub west : IsFromTo (neg_ℤ MAX_PLACE) MAX_PLACE (number_of table.west d)
  pub south : IsFromTo (neg_ℤ MAX_PLACE) MAX_PLACE (number_of table.south d)
  pub cell : IsFromTo (pos 1) MAX_CELL (number_of table.cell d)
  pub cols : IsFromTo (pos 1) (pos MAX_GRID_LINES) (number_of table.grid_cols d)
  pub rows : IsFromTo (pos 1) (pos MAX_GRID_LINES) (number_of table.grid_rows d)

gridded : (d : Data) → keys_fault PLAIN d table.place_keys ≡ None → Gridded d
gridded d right =
    let west = parted PLAIN d table.west (table.south ∷ table.cell ∷ table.grid_cols ∷ table.grid_rows ∷ []) right in
    let south = parted PLAIN d table.south (table.cell ∷ table.grid_cols ∷ table.grid_rows ∷ []) west.1 in
    let cell = parted PLAIN d table.cell (table.grid_cols ∷ table.grid_rows ∷ []) south.1 in
    let cols = parted PLAIN d table.grid_cols (table.grid_rows ∷ []) cell.1 in
    let rows = parted PLAIN d table.grid_rows ([]) cols.1 in
    record {
      west = from_to PLAIN d table.west west.0;
      south = from_to PLAIN d table.south south.0;
      cell = from_to PLAIN d table.cell cell.0;
      cols = from_to PLAIN d table.grid_cols cols.0;
      rows = from_to PLAIN d table.grid_rows rows.0;
    }

pub grid_kept : (d : Data) → keys_fault PLAIN d table.place_keys ≡ None → IsGridSpec (grid_of d)
unfolding grid_of
grid_kept d right =
    let g = gridded d right in
    record {
      west_in_range = g.west;
      south_in_range = g.south;
      cell_in_range = g.cell;
      cols_in_range = count_from_to (number_of table.grid_cols d) 1 MAX_GRID_LINES g.cols;
      rows_in_range = count_from_to (number_of table.grid_rows d) 1 MAX_GRID_LINES g.rows;
    }

pub grid_lines : (d : Data) → keys_fault PLAIN d table.place_keys ≡ None
    → IsCount (number_of table.grid_cols d) × IsCount (number_of table.grid_rows d)
grid_lines d right =
    let g = gridded d right in
    (counted _ MAX_GRID_LINES (from_some _ 1 g.cols.0) g.cols.1 (lit≤ tt), counted _ MAX_GRID_LINES (from_some _ 1 g.rows.0) g.rows.1 (lit≤ tt))

-- the step, the columns and the rows of a mesh whose keys have no fault
pub record Meshed (d : Data) : Type 0 where
  pub step : IsFromTo (pos MIN_STEP) (pos MAX_STEP) (number_of table.mesh_step d)
  pub cols : IsFromTo (pos MIN_NODE_COUNT) (pos MAX_NODE_COUNT) (number_of table.mesh_cols d)
  pub rows : IsFromTo (pos MIN_NODE_COUNT) (pos MAX_NODE_COUNT) (number_of table.mesh_rows d)

pub meshed : (place : Place) (d : Data) → keys_fault place d shape_keys ≡ None → Meshed d
meshed place d right =
    let step = parted place d table.mesh_step (table.mesh_cols ∷ table.mesh_rows ∷ []) right in
    let cols = parted place d table.mesh_cols (table.mesh_rows ∷ []) step.1 in
    let rows = parted place d table.mesh_rows ([]) cols.1 in
    record {
      step = from_to place d table.mesh_step step.0;
      cols = from_to place d table.mesh_cols cols.0;
      rows = from_to place d table.mesh_rows rows.0;
    }

-- a number between two counts is a count
pub count_between : (z : ℤ) (least most : ℕ) → IsFromTo (pos least) (pos most) z → most ≤ 4294967295 → IsCount z
count_between z least most between small = counted z most (from_some z least between.0) between.1 small

-- the cells and the base of a region whose keys have no fault: each number, and whether they lie in the grid
pub record Placed (place : Place) (d : Data) : Type 0 where
  pub col : pos 0 ≤ℤ number_of table.region_col d
  pub row : pos 0 ≤ℤ number_of table.region_row d
  pub cols : pos 1 ≤ℤ number_of table.region_cols d
  pub rows : pos 1 ≤ℤ number_of table.region_rows d
  pub cols_left : number_of table.region_cols d ≤ℤ (pos place.cols -ℤ number_of table.region_col d)
  pub rows_left : number_of table.region_rows d ≤ℤ (pos place.rows -ℤ number_of table.region_row d)
  pub col_inside : number_of table.region_col d ≤ℤ (pos place.cols -ℤ pos 1)
  pub row_inside : number_of table.region_row d ≤ℤ (pos place.rows -ℤ pos 1)
  pub base : IsFromTo (neg_ℤ MAX_HEIGHT) MAX_HEIGHT (number_of table.region_base d)

pub placed : (place : Place) (d : Data) → keys_fault place d region_number_keys ≡ None → Placed place d
placed place d right =
    let col = parted place d table.region_col (table.region_row ∷ table.region_cols ∷ table.region_rows ∷ table.region_base ∷ []) right in
    let row = parted place d table.region_row (table.region_cols ∷ table.region_rows ∷ table.region_base ∷ []) col.1 in
    let cols = parted place d table.region_cols (table.region_rows ∷ table.region_base ∷ []) row.1 in
    let rows = parted place d table.region_rows (table.region_base ∷ []) cols.1 in
    let base = parted place d table.region_base ([]) rows.1 in
    let first_col = from_to place d table.region_col col.0 in
    let first_row = from_to place d table.region_row row.0 in
    let wide = from_to place d table.region_cols cols.0 in
    let high = from_to place d table.region_rows rows.0 in
    record {
      col = first_col.0;
      row = first_row.0;
      cols = wide.0;
      rows = high.0;
      cols_left = wide.1;
      rows_left = high.1;
      col_inside = first_col.1;
      row_inside = first_row.1;
      base = from_to place d table.region_base base.0;
    }

-- so the cells are counts
pub col_counted : (place : Place) (d : Data) → Placed place d → place.cols ≤ 4294967295 → IsCount (number_of table.region_col d)
col_counted place d p small = counted _ place.cols p.col (less_some _ (pos 1) place.cols p.col (le_z_yes tt) p.col_inside) small

pub row_counted : (place : Place) (d : Data) → Placed place d → place.rows ≤ 4294967295 → IsCount (number_of table.region_row d)
row_counted place d p small = counted _ place.rows p.row (less_some _ (pos 1) place.rows p.row (le_z_yes tt) p.row_inside) small

pub cols_counted : (place : Place) (d : Data) → Placed place d → place.cols ≤ 4294967295 → IsCount (number_of table.region_cols d)
cols_counted place d p small =
    let some = from_some _ 1 p.cols in
    counted _ place.cols some (less_some _ (number_of table.region_col d) place.cols some p.col p.cols_left) small

pub rows_counted : (place : Place) (d : Data) → Placed place d → place.rows ≤ 4294967295 → IsCount (number_of table.region_rows d)
rows_counted place d p small =
    let some = from_some _ 1 p.rows in
    counted _ place.rows some (less_some _ (number_of table.region_row d) place.rows some p.row p.rows_left) small

pub base_fits : (z : ℤ) → IsFromTo (neg_ℤ MAX_HEIGHT) MAX_HEIGHT z → SFits w64 z
base_fits (pos a) (low, high) = record { sfits = first_of (omega (arith, ints, high), grind (arith, ints, high)) }
base_fits (negsuc a) (low, high) = record { sfits = first_of (omega (arith, ints, low), grind (arith, ints, low)) }
