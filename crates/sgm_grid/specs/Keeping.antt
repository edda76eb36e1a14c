-- What a cell keeps of the heights of its points, and the grid of a list of points.
use Rattle.std.specs.Prelude.{ℕ, ℤ, pos, ◌+ℤ◌, ◌≤◌, List, [], ◌∷◌, fold, filter, length, map}
use Rattle.std.specs.Prelude.{Option, Some, None}
use Rattle.sgm_base.specs.Rounding.{rounded}
use Rattle.sgm_base.specs.Values.{row_by_row}
use Rattle.sgm_base.specs.declared.point.Point.{Point}
use Rattle.sgm_grid.specs.declared.grid_spec.GridSpec.{GridSpec}
use Rattle.sgm_grid.specs.declared.keep.Gridding.{Gridding}
use Rattle.sgm_grid.specs.declared.keep.Keep.{Keep}
use Rattle.sgm_grid.specs.declared.keep.Keep.TheVariants.{Highest, Mean}
use Rattle.sgm_grid.specs.declared.limits.TheConstants.{MAX_BRIDGE}
use Rattle.sgm_grid.specs.Cells.{Cells, cells_of}
use Rattle.sgm_grid.specs.Points.{falls_into, greatest}

-- the sum of some heights
abbrev pub total : List ℤ → ℤ
total heights = fold ◌+ℤ◌ (pos 0) heights

-- the mean of some heights, rounded, or none where there are none
abbrev pub mean : List ℤ → Option ℤ
mean [] = None
mean (h ∷ more) = Some (rounded (total (h ∷ more)) (pos (length (h ∷ more))))

-- what a cell keeps of some heights, or none where there are none
abbrev pub kept : Keep → List ℤ → Option ℤ
kept Highest heights = greatest heights
kept Mean heights = mean heights

-- the heights of the points of a list that fall into a cell
abbrev pub heights_into : GridSpec → List Point → ℕ → ℕ → List ℤ
heights_into spec points col row = map (λ p. p.h) (filter (falls_into spec col row) points)

-- what a cell keeps of the points of a list
abbrev pub cell_after : Keep → GridSpec → List Point → ℕ → ℕ → Option ℤ
cell_after keep spec points col row = kept keep (heights_into spec points col row)

-- the grid in which each cell holds what it keeps of the points that fall into it, or is empty
-- where none does
unfoldable pub gridded : Keep → GridSpec → List Point → Cells
gridded keep spec points =
    cells_of spec (row_by_row spec.cols spec.rows (cell_after keep spec points))

-- the range of what says how points become heights
abbrev pub IsGridding : Gridding → Type 0
IsGridding gridding = gridding.bridge ≤ MAX_BRIDGE
