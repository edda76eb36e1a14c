-- The regions of a calibration lie in its grid.
use Rattle.std.proofs.Common.{◌≡◌, Bor, List, Option, Some, None, sym, subst}
use Rattle.std.specs.Prelude.{All, IfSome, option_map}
use Rattle.sgm_calib.specs.Calibration.{Calibration, IsCalibration}
use Rattle.sgm_grid.specs.declared.grid_spec.GridSpec.{GridSpec}
use Rattle.sgm_report.specs.Areas.{Area, IsArea}
use Rattle.sgm_ground.proofs.Grounds.{regions_of_place}

at_reference : (place : GridSpec) (regions : Option (Bor (List Area)))
    → IfSome (option_map (λ r. r.now) regions) (λ areas. All (IsArea place) areas) → IfSome regions (λ r. All (IsArea place) r.now)
at_reference place None inside = tt
at_reference place (Some r) inside = inside

-- the regions of a calibration lie in a grid of its place
pub regions_inside : (calib : Calibration) (place other : GridSpec) (regions : Option (Bor (List Area))) → IsCalibration calib
    → Some place ≡ calib.grid → option_map (λ r. r.now) regions ≡ calib.regions → other ≡ place → IfSome regions (λ r. All (IsArea other) r.now)
regions_inside calib place other regions kept there are same =
    let inside = subst (λ (o : Option GridSpec). IfSome o (λ s. IfSome calib.regions (λ areas. All (IsArea s) areas))) (sym there) kept.regions_inside in
    regions_of_place place other regions same
    (at_reference place regions (subst (λ (o : Option (List Area)). IfSome o (λ areas. All (IsArea place) areas)) (sym are) inside))
