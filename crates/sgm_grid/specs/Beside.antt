-- The cells on each side of a cell, and the ranges of a height that is found there.
use Rattle.std.specs.Prelude.{ℕ, ◌+◌, ◌≤◌, ℤ, List, drop, take, reverse, Option}
use Rattle.sgm_grid.specs.declared.bridges.Side.{Side}
use Rattle.sgm_grid.specs.declared.bridges.Side.TheVariants.{West, East, North, South}
use Rattle.sgm_grid.specs.declared.limits.TheConstants.{MAX_BRIDGE}
use Rattle.sgm_grid.specs.Bridges.{Pier, column_of}
use Rattle.sgm_grid.specs.Cells.{Cells, IsHeight, row_of}

-- those cells, the nearest first
abbrev pub cells_to : Side → Cells → ℕ → ℕ → List (Option ℤ)
cells_to West grid col row = reverse (take col (row_of grid row))
cells_to East grid col row = drop (col + 1) (row_of grid row)
cells_to North grid col row = reverse (take row (column_of grid col))
cells_to South grid col row = drop (row + 1) (column_of grid col)

-- the ranges of a pier of a bridge
abbrev pub IsPier : Pier → Type 0
IsPier pier = (1 ≤ pier.away) × (pier.away ≤ MAX_BRIDGE) × IsHeight pier.height
