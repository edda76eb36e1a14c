-- Whether the cells of two grids are the same.
use Rattle.std.specs.Prelude.{◌&&◌, Bool, ℤ, pos, ◌-ℤ◌}
use Rattle.std.specs.Int.{int_rem_euclid}
use Rattle.std.specs.Ordering.{int_eq}
use Rattle.sgm_grid.specs.declared.grid_spec.GridSpec.{GridSpec}

-- whether two sides lie whole cells apart
abbrev pub is_whole : ℤ → ℤ → ℤ → Bool
is_whole cell from side = int_eq (int_rem_euclid (side -ℤ from) cell) (pos 0)

-- whether a grid of the latter ranges stands on the cells of one of the former
abbrev pub fits : GridSpec → GridSpec → Bool
fits spec entry =
    int_eq entry.cell spec.cell && (is_whole spec.cell spec.west entry.west
    && is_whole spec.cell spec.south entry.south)
