-- What is held of points while they are added to the cells of a grid.
use Rattle.std.specs.Prelude.{⊤, ℕ, ◌+◌, ◌*◌, ◌≤◌, ℤ, pos, ◌+ℤ◌, List, All, map, replicate}
use Rattle.std.specs.Prelude.{slice_get, slice_set, Option, Some, None, unwrap_or, ◌==◌}
use Rattle.std.specs.Prelude.{if◌then◌else◌}
use Rattle.sgm_base.specs.Rounding.{rounded}
use Rattle.sgm_base.specs.declared.point.Point.{Point}
use Rattle.sgm_grid.specs.declared.grid_spec.GridSpec.{GridSpec}
use Rattle.sgm_grid.specs.declared.keep.Keep.{Keep}
use Rattle.sgm_grid.specs.declared.keep.Keep.TheVariants.{Highest, Mean}
use Rattle.sgm_grid.specs.Cells.{Cells, cells_of, cell_index}
use Rattle.sgm_grid.specs.Points.{added, cell_of, empty_grid}

-- the sum and the number of the heights that fell into a cell
pub record Sum : Type 0 where
  pub total : ℤ
  pub count : ℕ

abbrev pub no_sum : Sum
no_sum = record { total = pos 0; count = 0 }

-- a grid's ranges and the sum of each of its cells, row by row from the north
pub record CellSums : Type 0 where
  pub spec : GridSpec
  pub sums : List Sum

abbrev pub sums_of : GridSpec → List Sum → CellSums
sums_of spec sums = record { spec = spec; sums = sums }

-- the sum of the cell in that column and in that row from the north
abbrev pub sum_at : CellSums → ℕ → ℕ → Sum
sum_at held col row = unwrap_or (slice_get held.sums (cell_index held.spec col row)) no_sum

-- a sum with a height more
abbrev pub with_height : Sum → ℤ → Sum
with_height sum h = record { total = sum.total +ℤ h; count = sum.count + 1 }

-- the sums with a height more in the cell at that place in the list
abbrev pub summed_at : CellSums → ℕ → ℤ → CellSums
summed_at held at h =
    sums_of held.spec (slice_set held.sums at
    (with_height (unwrap_or (slice_get held.sums at) no_sum) h))

-- the sums with a height more in a cell, or as they were
abbrev pub summed_in : CellSums → Option (ℕ × ℕ) → ℤ → CellSums
summed_in held None h = held
summed_in held (Some cell) h = summed_at held (cell_index held.spec cell.0 cell.1) h

-- the sums after a point: its cell's has its height too, every other stays
abbrev pub summed : CellSums → Point → CellSums
summed held p = summed_in held (cell_of held.spec p) p.h

-- the mean that a sum tells, rounded, or none of no height
abbrev pub mean_told : Sum → Option ℤ
mean_told sum = if sum.count == 0 then None else Some (rounded sum.total (pos sum.count))

-- what is held: the greatest height of each cell, or the sum of each
pub data Binned : Type 0 where
  greatest_heights : Cells → Binned
  height_sums : CellSums → Binned

-- what is held of no points
abbrev pub no_points : Keep → GridSpec → Binned
no_points Highest spec = greatest_heights (empty_grid spec)
no_points Mean spec = height_sums (sums_of spec (replicate (spec.cols * spec.rows) no_sum))

-- what is held after a point
abbrev pub with_point : Binned → Point → Binned
with_point (greatest_heights grid) p = greatest_heights (added grid p)
with_point (height_sums held) p = height_sums (summed held p)

-- the grid that it makes
abbrev pub grid_in : Binned → Cells
grid_in (greatest_heights grid) = grid
grid_in (height_sums held) = cells_of held.spec (map mean_told held.sums)

-- the most points of a cell
abbrev pub most_points : ℕ
most_points = 4294967295

-- so many points more can be added, wherever they fall
abbrev pub HasRoom : Binned → ℕ → Type 0
HasRoom (greatest_heights grid) more = ⊤
HasRoom (height_sums held) more = All (λ (sum : Sum). sum.count + more ≤ most_points) held.sums
