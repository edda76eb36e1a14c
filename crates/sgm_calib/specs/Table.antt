-- The key table of calibration files: a row for each key, in the order of the checks. The names of
-- an object, the keys' paths and the order of the checks follow from it. Behind it stands what the
-- keys of an object become that holds no other.
use Rattle.std.specs.Prelude.{ℕ, ◌+◌, ◌==◌, ℤ, pos, neg_ℤ, Bool, ◌&&◌, List, [], ◌∷◌, ◌++◌, codes}
use Rattle.std.specs.Prelude.{filter, map}
use Rattle.std.specs.List.{list_any, range_with_len}
use Rattle.std.specs.Str.{bytes_eq}
use Rattle.serde_json.specs.Data.{Data}
use Rattle.sgm_base.specs.Disparities.{Disparities}
use Rattle.sgm_base.specs.declared.limits.TheConstants.{MAX_COUNT, MAX_FIRST, MAX_GRID_LINES}
use Rattle.sgm_base.specs.declared.limits.TheConstants.{MAX_PENALTY, MAX_WINDOW_HEIGHT}
use Rattle.sgm_base.specs.declared.limits.TheConstants.{MAX_WINDOW_WIDTH, MIN_FIRST}
use Rattle.sgm_base.specs.declared.limits.TheConstants.{MIN_WINDOW_SIDE}
use Rattle.sgm_census.specs.Windows.{WindowSides}
use Rattle.sgm_energy.specs.Pens.{Penalties}
use Rattle.sgm_calib.specs.declared.sort.Sort.{Sort}
use Rattle.sgm_grid.specs.declared.grid_spec.GridSpec.{GridSpec}
use Rattle.sgm_grid.specs.declared.limits.TheConstants.{MAX_BRIDGE, MAX_CELL, MAX_HEIGHT, MAX_PLACE}
use Rattle.sgm_height.specs.declared.camera.Camera.{Camera}
use Rattle.sgm_height.specs.declared.limits.TheConstants.{MAX_AXIS, MAX_BASELINE, MAX_DEPTH}
use Rattle.sgm_height.specs.declared.limits.TheConstants.{MAX_FOCAL, MAX_MOUNT, MAX_OFFSET}
use Rattle.sgm_height.specs.declared.limits.TheConstants.{MAX_SITE}
use Rattle.sgm_report.specs.declared.base.TheConstants.{MAX_RISE}
use Rattle.sgm_rectify.specs.declared.limits.TheConstants.{MAX_ENTRY, MAX_NODE, MAX_NODE_COUNT}
use Rattle.sgm_rectify.specs.declared.limits.TheConstants.{MAX_STEP, MIN_ENTRY, MIN_NODE}
use Rattle.sgm_rectify.specs.declared.limits.TheConstants.{MIN_NODE_COUNT, MIN_STEP}
use Rattle.sgm_calib.specs.Rows.{Form, object, warps, kind, name, keep as keep_form, truth, regions}
use Rattle.sgm_calib.specs.Rows.{between, odd, from, column, line, columns_from, lines_from, matrix}
use Rattle.sgm_calib.specs.Rows.{rotation, nodes, corners, Presence, required, optional, with}
use Rattle.sgm_calib.specs.Rows.{with_either, of_kind, since, optional_since, Row, is_given}
use Rattle.sgm_calib.specs.Rows.{number_of, count_of, truth_of}

-- the row of a key of the value itself, and of a key of an object
abbrev pub entry : ℕ → List ℕ → Form → Presence → Row
entry number key form presence =
    record { number = number; object = 1; name = key; path = key; form = form; presence = presence }

abbrev pub given : Row → ℕ → List ℕ → Form → Presence → Row
given holder number key form presence = record {
  number = number;
  object = holder.number;
  name = key;
  path = holder.path ++ codes "." ++ key;
  form = form;
  presence = presence;
}

abbrev pub key_of : Row → ℕ → List ℕ → Form → Row
key_of holder number key form = given holder number key form required

-- the numbers from as far below 0 to as far above it
abbrev within : ℤ → Form
within most = between (neg_ℤ most) most

abbrev pub top : Row
top =
    record {
      number = 1;
      object = 0;
      name = codes "top";
      path = codes "top";
      form = object;
      presence = required;
    }

abbrev pub version : Row
version = entry 2 (codes "version") (between (pos 1) (pos 3)) required

abbrev pub disparities : Row
disparities = entry 3 (codes "disparities") object required

abbrev pub first : Row
first = key_of disparities 4 (codes "first") (between MIN_FIRST MAX_FIRST)

abbrev pub count : Row
count = key_of disparities 5 (codes "count") (between (pos 1) (pos MAX_COUNT))

abbrev pub fine : Row
fine = given disparities 51 (codes "fine") truth (since 3)

abbrev pub census : Row
census = entry 6 (codes "census") object required

abbrev pub width : Row
width = key_of census 7 (codes "width") (odd (pos MIN_WINDOW_SIDE) (pos MAX_WINDOW_WIDTH))

abbrev pub height : Row
height = key_of census 8 (codes "height") (odd (pos MIN_WINDOW_SIDE) (pos MAX_WINDOW_HEIGHT))

abbrev pub penalties : Row
penalties = entry 9 (codes "penalties") object required

abbrev pub p1 : Row
p1 = key_of penalties 10 (codes "p1") (between (pos 1) (pos MAX_PENALTY))

abbrev pub p2 : Row
p2 = key_of penalties 11 (codes "p2") (from (codes "p1") (pos MAX_PENALTY))

abbrev pub adapt : Row
adapt = given penalties 50 (codes "adapt") truth (since 2)

abbrev pub warp : Row
warp = entry 12 (codes "warp") warps optional

abbrev pub left : Row
left = key_of warp 13 (codes "left") object

abbrev pub side_kind : Row
side_kind = key_of left 14 (codes "kind") kind

abbrev pub side_matrix : Row
side_matrix =
    given left 15 (codes "matrix") (matrix MIN_ENTRY MAX_ENTRY) (of_kind (codes "projective"))

abbrev pub mesh_step : Row
mesh_step =
    given left 16 (codes "step") (between (pos MIN_STEP) (pos MAX_STEP)) (of_kind (codes "mesh"))

abbrev pub mesh_cols : Row
mesh_cols =
    given left 17 (codes "cols") (between (pos MIN_NODE_COUNT) (pos MAX_NODE_COUNT))
    (of_kind (codes "mesh"))

abbrev pub mesh_rows : Row
mesh_rows =
    given left 18 (codes "rows") (between (pos MIN_NODE_COUNT) (pos MAX_NODE_COUNT))
    (of_kind (codes "mesh"))

abbrev pub mesh_nodes : Row
mesh_nodes = given left 19 (codes "nodes") (nodes MIN_NODE MAX_NODE) (of_kind (codes "mesh"))

abbrev pub right : Row
right = key_of warp 20 (codes "right") object

-- a key of the right side is that of the left one, seven numbers on
abbrev on_right : Row → Row
on_right row = given right (row.number + 7) row.name row.form row.presence

abbrev pub camera : Row
camera = entry 27 (codes "camera") object (with_either (codes "grid") (codes "pose"))

abbrev pub focal : Row
focal = key_of camera 28 (codes "focal") (between (pos 1) MAX_FOCAL)

abbrev pub baseline : Row
baseline = key_of camera 29 (codes "baseline") (between (pos 1) MAX_BASELINE)

abbrev pub cx : Row
cx = key_of camera 30 (codes "cx") (within MAX_OFFSET)

abbrev pub cy : Row
cy = key_of camera 31 (codes "cy") (within MAX_OFFSET)

abbrev pub doffs : Row
doffs = key_of camera 32 (codes "doffs") (within MAX_OFFSET)

abbrev pub mount : Row
mount = key_of camera 33 (codes "mount") (between (pos 0) MAX_MOUNT)

abbrev pub near : Row
near = key_of camera 34 (codes "near") (between (pos 1) MAX_DEPTH)

abbrev pub far : Row
far = key_of camera 35 (codes "far") (from (codes "near") MAX_DEPTH)

abbrev pub pose : Row
pose = entry 54 (codes "pose") object (optional_since 3)

abbrev pub pose_matrix : Row
pose_matrix = key_of pose 55 (codes "matrix") (rotation (neg_ℤ MAX_AXIS) MAX_AXIS)

abbrev pub pose_east : Row
pose_east = key_of pose 56 (codes "east") (within MAX_SITE)

abbrev pub pose_north : Row
pose_north = key_of pose 57 (codes "north") (within MAX_SITE)

abbrev pub pose_up : Row
pose_up = key_of pose 58 (codes "up") (within MAX_SITE)

abbrev pub grid : Row
grid = entry 36 (codes "grid") object (with (codes "regions"))

abbrev pub west : Row
west = key_of grid 37 (codes "west") (within MAX_PLACE)

abbrev pub south : Row
south = key_of grid 38 (codes "south") (within MAX_PLACE)

abbrev pub cell : Row
cell = key_of grid 39 (codes "cell") (between (pos 1) MAX_CELL)

abbrev pub grid_cols : Row
grid_cols = key_of grid 40 (codes "cols") (between (pos 1) (pos MAX_GRID_LINES))

abbrev pub grid_rows : Row
grid_rows = key_of grid 41 (codes "rows") (between (pos 1) (pos MAX_GRID_LINES))

abbrev pub keep : Row
keep = given grid 52 (codes "keep") keep_form (since 3)

abbrev pub bridge : Row
bridge = given grid 53 (codes "bridge") (between (pos 0) (pos MAX_BRIDGE)) (since 3)

abbrev pub region_list : Row
region_list = entry 42 (codes "regions") regions optional

abbrev pub region : Row
region =
    record {
      number = 43;
      object = region_list.number;
      name = codes "]";
      path = codes "]";
      form = object;
      presence = required;
    }

abbrev pub region_name : Row
region_name = key_of region 44 (codes "name") name

abbrev pub region_col : Row
region_col = key_of region 45 (codes "col") column

abbrev pub region_row : Row
region_row = key_of region 46 (codes "row") line

abbrev pub region_cols : Row
region_cols = key_of region 47 (codes "cols") (columns_from (codes "col"))

abbrev pub region_rows : Row
region_rows = key_of region 48 (codes "rows") (lines_from (codes "row"))

abbrev pub region_base : Row
region_base = key_of region 49 (codes "base") (within MAX_HEIGHT)

abbrev pub region_rise_east : Row
region_rise_east = given region 59 (codes "rise_east") (within MAX_RISE) (since 3)

abbrev pub region_rise_north : Row
region_rise_north = given region 60 (codes "rise_north") (within MAX_RISE) (since 3)

abbrev pub region_outline : Row
region_outline =
    given region 61 (codes "outline") (corners (neg_ℤ MAX_PLACE) MAX_PLACE) (optional_since 3)

-- the keys of each object, of the value itself those after its version
abbrev pub top_keys : List Row
top_keys = disparities ∷ census ∷ penalties ∷ warp ∷ camera ∷ pose ∷ grid ∷ region_list ∷ []

abbrev pub disparities_keys : List Row
disparities_keys = first ∷ count ∷ fine ∷ []

abbrev pub census_keys : List Row
census_keys = width ∷ height ∷ []

abbrev pub penalties_keys : List Row
penalties_keys = p1 ∷ p2 ∷ adapt ∷ []

abbrev pub side_keys : List Row
side_keys = side_kind ∷ side_matrix ∷ mesh_step ∷ mesh_cols ∷ mesh_rows ∷ mesh_nodes ∷ []

abbrev pub camera_keys : List Row
camera_keys = focal ∷ baseline ∷ cx ∷ cy ∷ doffs ∷ mount ∷ near ∷ far ∷ []

-- where the point below a camera lies
abbrev pub shift_keys : List Row
shift_keys = pose_east ∷ pose_north ∷ pose_up ∷ []

abbrev pub pose_keys : List Row
pose_keys = pose_matrix ∷ shift_keys

abbrev pub place_keys : List Row
place_keys = west ∷ south ∷ cell ∷ grid_cols ∷ grid_rows ∷ []

abbrev pub gridding_keys : List Row
gridding_keys = keep ∷ bridge ∷ []

abbrev pub grid_keys : List Row
grid_keys = place_keys ++ gridding_keys

abbrev pub region_keys : List Row
region_keys = region_name ∷ region_col ∷ region_row ∷ region_cols ∷ region_rows ∷ region_base ∷ []

abbrev pub rise_keys : List Row
rise_keys = region_rise_east ∷ region_rise_north ∷ []

abbrev pub all_region_keys : List Row
all_region_keys = region_keys ++ rise_keys ++ region_outline ∷ []

-- the table
unfoldable pub keys : List Row
keys =
    (top ∷ version ∷ [])
    ++ (disparities ∷ disparities_keys)
    ++ (census ∷ census_keys)
    ++ (penalties ∷ penalties_keys)
    ++ (warp ∷ [])
    ++ (left ∷ side_keys)
    ++ (right ∷ map on_right side_keys)
    ++ (camera ∷ camera_keys)
    ++ (pose ∷ pose_keys)
    ++ (grid ∷ grid_keys)
    ++ (region_list ∷ [])
    ++ (region ∷ all_region_keys)

-- their numbers in that order: from 1 to 49, with 51 behind 5, 50 behind 11, 54 to 58 behind 35,
-- and 52 and 53 behind 41; then 59 to 61
abbrev pub order : List ℕ
order =
    range_with_len 1 5 ++ 51 ∷ range_with_len 6 6 ++ 50 ∷ range_with_len 12 24
    ++ range_with_len 54 5 ++ range_with_len 36 6
    ++ 52 ∷ 53 ∷ range_with_len 42 8 ++ range_with_len 59 3

-- those of some keys that an object of that sort is given
abbrev pub given_rows : Sort → List Row → List Row
given_rows sort rows = filter (λ row. is_given row.presence sort) rows

-- the keys that an object of that sort is given, in the order of their checks
unfoldable pub rows_in : Row → Sort → List Row
rows_in holder sort = given_rows sort (filter (λ row. row.object == holder.number) keys)

-- whether the table gives an object of that sort the name
unfoldable pub is_known : Row → Sort → List ℕ → Bool
is_known holder sort key =
    list_any (λ row. (row.object == holder.number) && is_given row.presence sort
    && bytes_eq row.name key) keys

-- ---- what an object without objects is

-- the disparities, the window and the penalties that an object is
abbrev pub span_of : Data → Disparities
span_of d = record { first = number_of first d; count = count_of count d }

abbrev pub window_of : Data → WindowSides
window_of d = record { width = count_of width d; height = count_of height d }

abbrev pub penalties_of : Data → Penalties
penalties_of d = record { p1 = count_of p1 d; p2 = count_of p2 d; adaptive = truth_of adapt d }

-- the camera that an object is
unfoldable pub camera_of : Data → Camera
camera_of d = record {
  focal = number_of focal d;
  baseline = number_of baseline d;
  cx = number_of cx d;
  cy = number_of cy d;
  doffs = number_of doffs d;
  mount = number_of mount d;
  near = number_of near d;
  far = number_of far d;
}

-- the grid that an object is
unfoldable pub grid_of : Data → GridSpec
grid_of d = record {
  west = number_of west d;
  south = number_of south d;
  cell = number_of cell d;
  cols = count_of grid_cols d;
  rows = count_of grid_rows d;
}
