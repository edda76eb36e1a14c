-- Which places an outline encloses: the even-odd rule, exact. An outline is a list of corners, each
-- so far to the east and so far to the north in the grid's frame, in micrometres. Places are told
-- doubled, as a cell's centre may lie half a micrometre from a whole one.
use Rattle.std.specs.Prelude.{ℕ, ◌%◌, ◌≤◌, ◌==◌, ℤ, pos, neg_ℤ, ◌+ℤ◌, ◌-ℤ◌, ◌*ℤ◌, int_le, int_lt}
use Rattle.std.specs.Prelude.{Bool, ◌&&◌, not, if◌then◌else◌, List, ◌++◌, All, count_by, drop}
use Rattle.std.specs.Prelude.{length, take, zip}
use Rattle.sgm_base.specs.Ranges.{IsFromTo}
use Rattle.sgm_grid.specs.declared.grid_spec.GridSpec.{GridSpec}
use Rattle.sgm_grid.specs.declared.limits.TheConstants.{MAX_PLACE}
use Rattle.sgm_report.specs.Bases.{from_south, twice_way}
use Rattle.sgm_report.specs.declared.outline.TheConstants.{MAX_CORNERS, MIN_CORNERS}

-- so far to the east, and so far to the north
abbrev pub Corner : Type 0
Corner = ℤ × ℤ

-- from one corner to another
abbrev pub Edge : Type 0
Edge = Corner × Corner

-- the edges of an outline: from each corner to the next one, and from the last to the first
abbrev pub edges : List Corner → List Edge
edges corners = zip corners (drop 1 corners ++ take 1 corners)

-- whether a corner lies at the doubled north or to the south of it
abbrev pub is_reached : ℤ → Corner → Bool
is_reached north corner = int_le (pos 2 *ℤ corner.1) north

-- whether one end of an edge alone does
abbrev pub straddles : ℤ → Edge → Bool
straddles north edge =
    if is_reached north edge.0 then not (is_reached north edge.1) else is_reached north edge.1

-- The side of an edge on which a doubled place lies, as a product that is above 0 where the edge,
-- once it straddles the place, passes to the east of it.
abbrev pub side_of : ℤ → ℤ → Edge → ℤ
side_of east north edge =
    let run = pos 2 *ℤ edge.1.0 -ℤ pos 2 *ℤ edge.0.0 in
    let rise = pos 2 *ℤ edge.1.1 -ℤ pos 2 *ℤ edge.0.1 in
    (((pos 2 *ℤ edge.0.0 -ℤ east) *ℤ rise) +ℤ ((north -ℤ pos 2 *ℤ edge.0.1) *ℤ run)) *ℤ rise

-- whether an edge straddles a doubled place and passes to the east of it
unfoldable pub passes_east : ℤ → ℤ → Edge → Bool
passes_east east north edge = straddles north edge && int_lt (pos 0) (side_of east north edge)

-- whether a doubled place lies inside: an odd number of edges pass to the east of it
abbrev pub encloses : List Corner → ℤ → ℤ → Bool
encloses corners east north = count_by (passes_east east north) (edges corners) % 2 == 1

-- the doubled centre of a cell in that column, and of one in that row from the north
abbrev pub centre_east : GridSpec → ℕ → ℤ
centre_east spec col = pos 2 *ℤ spec.west +ℤ twice_way spec col

abbrev pub centre_north : GridSpec → ℕ → ℤ
centre_north spec row = pos 2 *ℤ spec.south +ℤ twice_way spec (from_south spec row)

-- the range of a corner
abbrev pub IsCorner : Corner → Type 0
IsCorner corner =
    IsFromTo (neg_ℤ MAX_PLACE) MAX_PLACE corner.0 × IsFromTo (neg_ℤ MAX_PLACE) MAX_PLACE corner.1

-- three corners at least, and not too many
pub record IsOutline (corners : List Corner) : Type 0 where
  pub some_corners : MIN_CORNERS ≤ length corners
  pub few_corners : length corners ≤ MAX_CORNERS
  pub in_range : All IsCorner corners
