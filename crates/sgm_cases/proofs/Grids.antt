-- What points and bridges leave as it was: where a grid lies.
use Rattle.std.proofs.Common.{◌≡◌, ℕ, ℤ, Bor, List, Option, Some, None, refl, sym, subst, ap, ◌∙◌}
use Rattle.std.specs.Prelude.{All, IfSome}
use Rattle.sgm_base.specs.declared.point.Point.{Point}
use Rattle.sgm_calib.specs.Calibration.{Calibration, IsCalibration}
use Rattle.sgm_grid.specs.Binning.{Binned, CellSums, grid_in, greatest_heights, height_sums, no_points, summed_in, with_point}
use Rattle.sgm_grid.specs.Bridges.{bridged}
use Rattle.sgm_grid.specs.Cells.{Cells}
use Rattle.sgm_grid.specs.Points.{cell_of, raised}
use Rattle.sgm_grid.specs.declared.grid_spec.GridSpec.{GridSpec}
use Rattle.sgm_grid.specs.declared.keep.Keep.{Keep}
use Rattle.sgm_grid.specs.declared.keep.Keep.TheVariants.{Highest, Mean}
use Rattle.sgm_report.specs.Areas.{Area, IsArea}

-- where the grid lies that is made of what is held
abbrev pub place_of : Binned → GridSpec
place_of bins = (grid_in bins).spec

raised_there : (grid : Cells) (cell : Option (ℕ × ℕ)) (h : ℤ) → (raised grid cell h).spec ≡ grid.spec
raised_there grid None h = refl
raised_there grid (Some cell) h = refl

summed_there : (held : CellSums) (cell : Option (ℕ × ℕ)) (h : ℤ) → (summed_in held cell h).spec ≡ held.spec
summed_there held None h = refl
summed_there held (Some cell) h = refl

pub point_there : (bins : Binned) (p : Point) → place_of (with_point bins p) ≡ place_of bins
point_there (greatest_heights grid) p = raised_there grid (cell_of grid.spec p) p.h
point_there (height_sums held) p = summed_there held (cell_of held.spec p) p.h

pub none_there : (keep : Keep) (spec : GridSpec) → place_of (no_points keep spec) ≡ spec
none_there Highest spec = refl
none_there Mean spec = refl

pub bridged_there : (most : ℕ) (grid : Cells) → (bridged most grid).spec ≡ grid.spec
unfolding bridged
bridged_there most grid = refl

at_reference : (place : GridSpec) (regions : Bor (List Area)) (areas : Option (List Area)) → Some regions.now ≡ areas
    → IfSome areas (λ found. All (IsArea place) found) → All (IsArea place) regions.now
at_reference place regions areas are inside = subst (λ (o : Option (List Area)). IfSome o (λ found. All (IsArea place) found)) (sym are) inside

-- the regions of a calibration lie in a grid of its place
pub regions_there : (calib : Calibration) (spec place : GridSpec) (regions : Bor (List Area)) → IsCalibration calib → Some spec ≡ calib.grid
    → Some regions.now ≡ calib.regions → place ≡ spec → All (IsArea place) regions.now
regions_there calib spec place regions kept there are same =
    subst (λ (s : GridSpec). All (IsArea s) regions.now) (sym same)
    (at_reference spec regions calib.regions are
    (subst (λ (o : Option GridSpec). IfSome o (λ s. IfSome calib.regions (λ areas. All (IsArea s) areas))) (sym there) kept.regions_inside))
