-- What the key table says of a value: the calibration, or the first fault. The order is that of the
-- table's rows; `version` alone comes before the unknown names of the value itself.
use Rattle.std.specs.Prelude.{Bool, if◌then◌else◌, [], ◌∷◌, map, Option, Some, None, option_map}
use Rattle.std.specs.Prelude.{unwrap_or, Result, Ok, Err}
use Rattle.std.specs.Option.{option_or}
use Rattle.std.specs.Result.{result_err}
use Rattle.serde_json.specs.Data.{Data}
use Rattle.serde_json.specs.Find.{get, as_object}
use Rattle.sgm_census.specs.declared.rule.CostRule.{CostRule}
use Rattle.sgm_census.specs.declared.rule.CostRule.TheVariants.{Plain, Smoothed}
use Rattle.sgm_height.specs.declared.camera.Camera.{Camera}
use Rattle.sgm_height.specs.declared.pose.Pose.{Pose}
use Rattle.sgm_height.specs.Pose.{axes_of}
use Rattle.sgm_grid.specs.declared.grid_spec.GridSpec.{GridSpec}
use Rattle.sgm_grid.specs.declared.keep.Gridding.{Gridding}
use Rattle.sgm_grid.specs.declared.keep.Keep.TheVariants.{Highest}
use Rattle.sgm_report.specs.declared.table.Columns.{Columns}
use Rattle.sgm_report.specs.declared.table.Columns.TheVariants.{Bridged}
use Rattle.sgm_report.specs.declared.table.Columns.TheVariants as columns
use Rattle.sgm_calib.specs.declared.keys.CalibFault.{CalibFault}
use Rattle.sgm_calib.specs.declared.keys.CalibFault.TheVariants.{Version, Missing}
use Rattle.sgm_calib.specs.declared.place.TheConstants.{PLAIN}
use Rattle.sgm_calib.specs.declared.sort.Sort.{Sort}
use Rattle.sgm_calib.specs.Calibration.{Calibration, plain_gridding}
use Rattle.sgm_calib.specs.Keeps.{keep_named}
use Rattle.sgm_calib.specs.Table as table
use Rattle.sgm_calib.specs.Table.{rows_in, span_of, window_of, penalties_of, camera_of, grid_of}
use Rattle.sgm_calib.specs.Rows.{Row, Form, object, warps, regions, key_at, whole, number_of}
use Rattle.sgm_calib.specs.Rows.{count_of, truth_of, is_in_range, is_required, is_since}
use Rattle.sgm_calib.specs.Checks.{first_of, typed_in, or_out_of_range, object_fault, type_fault}
use Rattle.sgm_calib.specs.Checks.{keys_fault, sort_of, value_of, text_of, numbers_at}
use Rattle.sgm_calib.specs.WarpKeys.{warps_fault, warp_in}
use Rattle.sgm_calib.specs.RegionKeys.{regions_fault, regions_in}

-- what is wrong with the version: it is missing, its type, or it is none that is known
unfoldable pub version_fault : Data → Option CalibFault
version_fault top =
    result_err (or_out_of_range Version (is_in_range table.version.form PLAIN top)
    (typed_in whole PLAIN top table.version))

-- the costs of a value go by its version
unfoldable pub rule_in : Data → CostRule
rule_in top = if is_since 3 (sort_of top) then Smoothed else Plain

-- the columns of its table too
unfoldable pub columns_in : Data → Columns
columns_in top = if is_since 3 (sort_of top) then Bridged else columns.Plain

abbrev pub itself_fault_of : Row → Sort → Bool → Option Data → Option CalibFault
itself_fault_of row sort required None =
    if required then Some (Missing (key_at PLAIN row)) else None
itself_fault_of row sort required (Some d) = object_fault PLAIN row sort d

-- what is wrong with an object of the value itself: it is missing and must be there, its type, or
-- an unknown name
unfoldable pub itself_fault : Data → Row → Option CalibFault
itself_fault top row =
    itself_fault_of row (sort_of top) (is_required row.presence top) (get row.name top)

abbrev pub held_fault : Row → Sort → Option Data → Option CalibFault
held_fault row sort None = None
held_fault row sort (Some d) = keys_fault PLAIN d (rows_in row sort)

-- what is wrong with an object that holds no other: the object itself, its keys
unfoldable pub section_fault : Data → Row → Option CalibFault
section_fault top row =
    option_or (itself_fault top row) (held_fault row (sort_of top) (get row.name top))

abbrev pub entry_fault_of : Form → Data → Row → Option CalibFault
entry_fault_of object top row = section_fault top row
entry_fault_of warps top row = warps_fault top
entry_fault_of regions top row = regions_fault top
entry_fault_of _ top row = None

-- what is wrong with a key of the value itself; its version was checked before
abbrev pub entry_fault : Data → Row → Option CalibFault
entry_fault top row = entry_fault_of row.form top row

-- ---- the value

-- what is wrong with the value itself: its type, its version, a name that its version doesn't know
unfoldable pub top_fault : Data → Option CalibFault
top_fault top =
    first_of (type_fault (key_at PLAIN table.top) (as_object top) ∷ version_fault top
    ∷ object_fault PLAIN table.top (sort_of top) top ∷ [])

-- what is wrong with what stands in it
unfoldable pub entries_fault : Data → Option CalibFault
entries_fault top = first_of (map (entry_fault top) table.top_keys)

-- the first fault of a value, where it has one
abbrev pub fault_in : Data → Option CalibFault
fault_in top = option_or (top_fault top) (entries_fault top)

-- ---- the calibration that a value without a fault is

-- the pose that an object is
unfoldable pub pose_of : Data → Pose
pose_of d = record {
  axes = axes_of (numbers_at table.pose_matrix d);
  east = number_of table.pose_east d;
  north = number_of table.pose_north d;
  up = number_of table.pose_up d;
}

-- the camera, its pose and the grid of a value, where it has them
unfoldable pub camera_in : Data → Option Camera
camera_in top = option_map camera_of (get table.camera.name top)

unfoldable pub pose_in : Data → Option Pose
pose_in top = option_map pose_of (get table.pose.name top)

unfoldable pub grid_in : Data → Option GridSpec
grid_in top = option_map grid_of (get table.grid.name top)

-- how an object of a grid says that points become heights
abbrev pub gridding_of : Data → Gridding
gridding_of d =
    record {
      keep = unwrap_or (keep_named (text_of table.keep d)) Highest;
      bridge = count_of table.bridge d;
    }

-- how those of a value do, which goes by its version
unfoldable pub gridding_in : Data → Gridding
gridding_in top =
    if is_since 3 (sort_of top) then gridding_of (value_of table.grid top) else plain_gridding

abbrev pub calibration_in : Data → Calibration
calibration_in top = record {
  span = span_of (value_of table.disparities top);
  fine = truth_of table.fine (value_of table.disparities top);
  window = window_of (value_of table.census top);
  rule = rule_in top;
  penalties = penalties_of (value_of table.penalties top);
  left = warp_in table.left top;
  right = warp_in table.right top;
  camera = camera_in top;
  pose = pose_in top;
  grid = grid_in top;
  gridding = gridding_in top;
  columns = columns_in top;
  regions = regions_in top;
}

abbrev pub unless : Option CalibFault → Calibration → Result Calibration CalibFault
unless None calibration = Ok calibration
unless (Some fault) calibration = Err fault

-- the calibration that a value is, or its first fault
unfoldable pub judged : Data → Result Calibration CalibFault
judged top = unless (fault_in top) (calibration_in top)
