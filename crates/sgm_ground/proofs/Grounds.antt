-- Where a grid of points and its bridges lie, and the regions in it.
use Rattle.std.proofs.Common.{◌≡◌, ℕ, Bor, List, Option, refl, sym, subst}
use Rattle.std.specs.Prelude.{All, IfSome}
use Rattle.sgm_base.specs.declared.point.Point.{Point}
use Rattle.sgm_grid.specs.Bridges.{bridged}
use Rattle.sgm_grid.specs.Cells.{Cells}
use Rattle.sgm_grid.specs.Keeping.{gridded}
use Rattle.sgm_grid.specs.declared.grid_spec.GridSpec.{GridSpec}
use Rattle.sgm_grid.specs.declared.keep.Keep.{Keep}
use Rattle.sgm_report.specs.Areas.{Area, IsArea}

-- bridges leave a grid where it lies
pub bridged_spec : (most : ℕ) (grid : Cells) → (bridged most grid).spec ≡ grid.spec
unfolding bridged
bridged_spec most grid = refl

-- regions of a place lie in a grid of that place
pub regions_of_place : (place other : GridSpec) (regions : Option (Bor (List Area))) → other ≡ place
    → IfSome regions (λ r. All (IsArea place) r.now) → IfSome regions (λ r. All (IsArea other) r.now)
regions_of_place place other regions same inside = subst (λ (s : GridSpec). IfSome regions (λ r. All (IsArea s) r.now)) (sym same) inside

-- a grid of points lies where it is asked for
pub gridded_spec : (keep : Keep) (place : GridSpec) (points : List Point) → (gridded keep place points).spec ≡ place
unfolding gridded
gridded_spec keep place points = refl
