-- What a calibration that is read keeps.
use Rattle.std.proofs.Common.{◌≡◌, ◌≤◌, List, length, Option, Some, None, option_map, IfSome, IsTrue, is_some, All, subst, sym}
use Rattle.serde_json.specs.Data.{Data}
use Rattle.serde_json.specs.Find.{get}
use Rattle.sgm_base.specs.declared.limits.TheConstants.{MAX_REGIONS}
use Rattle.sgm_height.specs.declared.camera.Camera.{Camera}
use Rattle.sgm_grid.specs.declared.grid_spec.GridSpec.{GridSpec}
use Rattle.sgm_report.specs.Areas.{Area, IsArea}
use Rattle.sgm_calib.specs.Table as table
use Rattle.sgm_calib.specs.Table.{grid_of}
use Rattle.sgm_calib.specs.Judge.{grid_in}
use Rattle.sgm_calib.specs.RegionKeys.{AreRegionsOf}

pub IfSome-map : {A B : Type 0} (f : A → B) (P : B → Type 0) (found : Option A) → IfSome found (λ a. P (f a)) → IfSome (option_map f found) P
IfSome-map f P None h = h
IfSome-map f P (Some a) h = h

-- a value with a grid asks for a camera
pub grid_has_camera : (top : Data) (grid : Option GridSpec) (camera : Option Camera) → grid ≡ grid_in top
    → IfSome (get table.grid.name top) (λ _. IsTrue (is_some camera)) → IfSome grid (λ _. IsTrue (is_some camera))
unfolding grid_in
grid_has_camera top grid camera is asked =
    subst (λ (found : Option GridSpec). IfSome found (λ _. IsTrue (is_some camera))) (sym is)
    (IfSome-map grid_of (λ _. IsTrue (is_some camera)) (get table.grid.name top) asked)

pub inside-map : {V : Type 0} (areas_of : V → List Area) (grid : Option GridSpec) (found : Option V)
    → IfSome grid (λ spec. IfSome found (λ v. AreRegionsOf spec (areas_of v)))
    → IfSome grid
    (λ spec. IfSome (option_map areas_of found) (λ areas. All (IsArea spec) areas))
inside-map areas_of None found h = h
inside-map areas_of (Some spec) None h = h
inside-map areas_of (Some spec) (Some v) h = h.inside

pub given-map : {V W C : Type 0} (f : V → W) (other : Option C) (found : Option V)
    → IfSome found (λ _. IsTrue (is_some other)) → IfSome (option_map f found) (λ _. IsTrue (is_some other))
given-map f other None h = h
given-map f other (Some v) h = h

-- regions come with their grid, and then there are few of them
pub few-map : {V : Type 0} (areas_of : V → List Area) (grid : Option GridSpec) (found : Option V)
    → IfSome found (λ _. IsTrue (is_some grid))
    → IfSome grid (λ spec. IfSome found (λ v. AreRegionsOf spec (areas_of v)))
    → IfSome (option_map areas_of found) (λ areas. length areas ≤ MAX_REGIONS)
few-map areas_of grid None given h = given
few-map areas_of None (Some v) given h = absurd (cc)
few-map areas_of (Some spec) (Some v) given h = h.few
