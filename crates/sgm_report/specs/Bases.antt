-- The base of a region: a plane over the cells of its grid, from which volumes are counted.
use Rattle.std.specs.Prelude.{ℕ, ◌+◌, ◌-◌, ◌*◌, ℤ, pos, neg_ℤ, ◌+ℤ◌, ◌*ℤ◌, int_le, Bool, ◌&&◌}
use Rattle.sgm_base.specs.Ranges.{IsFromTo}
use Rattle.sgm_base.specs.Rounding.{rounded}
use Rattle.sgm_grid.specs.Cells.{IsHeight}
use Rattle.sgm_grid.specs.declared.grid_spec.GridSpec.{GridSpec}
use Rattle.sgm_grid.specs.declared.limits.TheConstants.{MAX_HEIGHT}
use Rattle.sgm_report.specs.declared.base.BasePlane.{BasePlane}
use Rattle.sgm_report.specs.declared.base.TheConstants.{MAX_RISE}

-- a row that is counted from the north, counted from the south
abbrev pub from_south : GridSpec → ℕ → ℕ
from_south spec row = spec.rows - 1 - row

-- twice the way from the grid's first side to the middle of that one of its lines of cells
abbrev pub twice_way : GridSpec → ℕ → ℤ
twice_way spec line = pos (2 * line + 1) *ℤ spec.cell

-- twice what a base rises from the grid's south-west corner to a cell's centre, in millionths
abbrev pub twice_rise : GridSpec → BasePlane → ℕ → ℕ → ℤ
twice_rise spec base col row =
    (base.rise_east *ℤ twice_way spec col)
    +ℤ (base.rise_north *ℤ twice_way spec (from_south spec row))

-- the base at the centre of the cell in that column and in that row from the north
unfoldable pub base_at : GridSpec → BasePlane → ℕ → ℕ → ℤ
base_at spec base col row = base.height +ℤ rounded (twice_rise spec base col row) (pos 2000000)

-- the range of a rise, in micrometres a metre
abbrev pub IsRise : ℤ → Type 0
IsRise z = IsFromTo (neg_ℤ MAX_RISE) MAX_RISE z

-- the ranges of a base's numbers
pub record IsBasePlane (base : BasePlane) : Type 0 where
  pub height_in_range : IsHeight base.height
  pub rise_east_in_range : IsRise base.rise_east
  pub rise_north_in_range : IsRise base.rise_north

-- whether a number is in the range of a height
abbrev pub is_height : ℤ → Bool
is_height z = int_le (neg_ℤ MAX_HEIGHT) z && int_le z MAX_HEIGHT
