-- The grid that a list of points makes, as cells keep the greatest height or the mean.
use Rattle.std.proofs.Common.{◌≡◌, ℕ, zero, suc, ◌+◌, ◌*◌, ◌/◌, ◌%◌, ◌<◌, List, [], ◌∷◌, length, map, get_or, Option, None, ℤ, refl, sym, ap, ◌∙◌, arith}
use Rattle.std.specs.Prelude.{fold, replicate, slice_get, unwrap_or}
use Rattle.std.proofs.lemmas.List.{length-map, length-replicate}
use Rattle.std.proofs.lemmas.List.FromFn.{fill_by_all}
use Rattle.std.proofs.lemmas.Nat.{mod_below, div_below}
use Rattle.std.proofs.lemmas.Option.{unwrap_or-slice_get}
use Rattle.sgm_base.specs.Values.{row_by_row}
use Rattle.sgm_base.specs.declared.point.Point.{Point}
use Rattle.sgm_grid.specs.declared.grid_spec.GridSpec.{GridSpec}
use Rattle.sgm_grid.specs.declared.keep.Keep.{Keep}
use Rattle.sgm_grid.specs.declared.keep.Keep.TheVariants.{Highest, Mean}
use Rattle.sgm_grid.specs.Binning.{CellSums, Sum, greatest_heights, grid_in, height_sums, mean_told, no_points, no_sum, summed, sums_of, with_point}
use Rattle.sgm_grid.specs.Cells.{Cells, IsGridSpec, cell_index, cells_of, height_at}
use Rattle.sgm_grid.specs.Keeping.{cell_after, gridded}
use Rattle.sgm_grid.specs.Points.{added, empty_grid}
use Rattle.sgm_grid.proofs.Added.{added-length, added-spec, highest_of_points}
use Rattle.sgm_grid.proofs.Summed.{mean_of_points, sums-length, sums-spec}

-- a grid that holds what f gives for each cell
pub grid_is : (grid : Cells) (spec : GridSpec) (f : ℕ → ℕ → Option ℤ) → grid.spec ≡ spec → 0 < spec.cols → length grid.heights ≡ spec.cols * spec.rows
    → ((col row : ℕ) → col < spec.cols → row < spec.rows → height_at grid col row ≡ f col row) → grid ≡ cells_of spec (row_by_row spec.cols spec.rows f)
unfolding row_by_row
grid_is grid spec f same some full each =
    ap (λ (s : GridSpec). cells_of s grid.heights) same
    ∙ ap (cells_of spec)
    (fill_by_all (λ k. f (k % spec.cols) (k / spec.cols)) grid.heights (spec.cols * spec.rows) None full
    (λ k l. let at : k ≡ k / spec.cols * spec.cols + k % spec.cols = omega arith in
    ap (λ j. get_or grid.heights j None) at
    ∙ ap (λ (s : GridSpec). get_or grid.heights (k / spec.cols * s.cols + k % spec.cols) None) (sym same)
    ∙ sym (unwrap_or-slice_get grid.heights (cell_index grid.spec (k % spec.cols) (k / spec.cols)) None)
    ∙ each (k % spec.cols) (k / spec.cols) (mod_below k spec.cols some) (div_below k spec.cols spec.rows some (omega arith))))

-- adding a list of points makes the grid of the greatest heights
pub highest_is : (spec : GridSpec) (points : List Point) → 0 < spec.cols → fold added (empty_grid spec) points ≡ gridded Highest spec points
unfolding gridded
highest_is spec points some =
    grid_is (fold added (empty_grid spec) points) spec (cell_after Highest spec points) (added-spec points (empty_grid spec)) some
    (added-length points (empty_grid spec) ∙ length-replicate (spec.cols * spec.rows) None)
    (λ col row hc hr. highest_of_points spec points col row hc hr)

told : (sums : List Sum) (at : ℕ) → unwrap_or (slice_get (map mean_told sums) at) None ≡ mean_told (unwrap_or (slice_get sums at) no_sum)
told [] at = refl
told (sum ∷ sums) zero = refl
told (sum ∷ sums) (suc at) = told sums at

-- the sums of a list of points tell the grid of the means
pub mean_is : (spec : GridSpec) (points : List Point) → 0 < spec.cols
    → grid_in (height_sums (fold summed (sums_of spec (replicate (spec.cols * spec.rows) no_sum)) points)) ≡ gridded Mean spec points
unfolding gridded
mean_is spec points some =
    let none = sums_of spec (replicate (spec.cols * spec.rows) no_sum) in
    let held = fold summed none points in
    grid_is (cells_of held.spec (map mean_told held.sums)) spec (cell_after Mean spec points) (sums-spec points none) some
    (length-map held.sums mean_told ∙ sums-length points none ∙ length-replicate (spec.cols * spec.rows) no_sum)
    (λ col row hc hr. told held.sums (cell_index held.spec col row) ∙ mean_of_points spec points col row hc hr)

highest_held : (points : List Point) (grid : Cells) → fold with_point (greatest_heights grid) points ≡ greatest_heights (fold added grid points)
highest_held [] grid = refl
highest_held (p ∷ points) grid = highest_held points (added grid p)

sums_held : (points : List Point) (held : CellSums) → fold with_point (height_sums held) points ≡ height_sums (fold summed held points)
sums_held [] held = refl
sums_held (p ∷ points) held = sums_held points (summed held p)

pub points_are_kept : (keep : Keep) (spec : GridSpec) (points : List Point) → IsGridSpec spec → grid_in (fold with_point (no_points keep spec) points) ≡ gridded keep spec points
points_are_kept Highest spec points ranges = ap grid_in (highest_held points (empty_grid spec)) ∙ highest_is spec points ranges.cols_in_range.0
points_are_kept Mean spec points ranges =
    ap grid_in (sums_held points (sums_of spec (replicate (spec.cols * spec.rows) no_sum))) ∙ mean_is spec points ranges.cols_in_range.0
