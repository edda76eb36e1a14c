-- The points that a map of disparities shows, and the grid that they make.
use Rattle.std.specs.Prelude.{◌≡◌, ℕ, ◌≤◌, ℤ, pos, ◌+ℤ◌, ◌*ℤ◌, All, List, length, filter_map}
use Rattle.std.specs.Prelude.{Option, Some, None, option_and_then}
use Rattle.std.specs.List.{flat_map, range_with_len}
use Rattle.sgm_base.specs.Values.{Values}
use Rattle.sgm_base.specs.declared.point.Point.{Point}
use Rattle.sgm_base.specs.Values.{value_at}
use Rattle.sgm_height.specs.declared.station.Station.{Station}
use Rattle.sgm_height.specs.Station.{seen_from}
use Rattle.sgm_grid.specs.declared.grid_spec.GridSpec.{GridSpec}
use Rattle.sgm_grid.specs.declared.keep.Keep.{Keep}
use Rattle.sgm_grid.specs.declared.placed.Placed.{Placed}
use Rattle.sgm_grid.specs.Cells.{Cells}
use Rattle.sgm_grid.specs.Keeping.{gridded}
use Rattle.sgm_grid.specs.Placing.{IsPlaced, placed}

-- the point that a pixel shows at a disparity; the value is in sixteenths, and 0 is that of the
-- first disparity
abbrev pub point_at : Station → ℤ → ℕ → ℕ → ℕ → Option Point
point_at station first x y value = seen_from station x y ((pos 16 *ℤ first) +ℤ pos value)

-- the points of the row y: of each pixel that has a disparity and a point
abbrev pub points_of_row : Station → ℤ → Values → ℕ → List Point
points_of_row station first map y =
    filter_map (λ x. option_and_then (point_at station first x y) (value_at map x y))
    (range_with_len 0 map.width)

-- the points of all pixels, row by row
unfoldable pub points_of : Station → ℤ → Values → List Point
points_of station first map = flat_map (points_of_row station first map)
    (range_with_len 0 map.height)

-- where those of the row y fall, and their heights: of each that falls into the grid
abbrev pub placed_of_row : Station → GridSpec → ℤ → Values → ℕ → List Placed
placed_of_row station spec first map y =
    filter_map (placed spec) (points_of_row station first map y)

-- these are they
pub record IsPlacedRow (station : Station) (spec : GridSpec) (first : ℤ) (map : Values) (y : ℕ)
    (places : List Placed) : Type 0 where
  pub exact : places ≡ placed_of_row station spec first map y
  pub within : All (IsPlaced spec) places
  pub few : length places ≤ map.width

-- the grid of a map, of what each cell keeps of its points, where there is a station and a grid is
-- asked for
abbrev pub grid_of : Option Station → Option GridSpec → Keep → ℤ → Values → Option Cells
grid_of (Some station) (Some spec) keep first map =
    Some (gridded keep spec (points_of station first map))
grid_of _ _ keep first map = None
