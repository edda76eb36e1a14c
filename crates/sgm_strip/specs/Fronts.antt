-- Fronts: the row of path values with which a direction goes on, and the strips that it went
-- through.
use Rattle.std.specs.Prelude.{◌≡◌, ℕ, ◌-◌, ◌≤◌, false, List, length, slice_get, Some, All}
use Rattle.sgm_base.specs.declared.limits.TheConstants.{MAX_PATH_VALUE}
use Rattle.sgm_energy.specs.declared.dir.Dir.{Dir}
use Rattle.sgm_energy.specs.Dirs.{is_level, position_of, strip_at}
use Rattle.sgm_energy.specs.Energies.{path_value}
use Rattle.sgm_energy.specs.Rows.{HoldsRow}
use Rattle.sgm_strip.specs.Cuts.{CutParts, IsCut, last_row}
use Rattle.sgm_strip.specs.Scenes.{SceneParts, IsScene, problem_of, row_length}
use Rattle.sgm_strip.specs.Parcels.{ParcelParts}
use Rattle.sgm_strip.specs.declared.front.Visit.{Visit}

abbrev pub visit_of : ℕ → ℕ → Visit
visit_of strip worker = record { strip = strip; worker = worker }

-- what contracts see of a front
pub record FrontParts : Type 0 where
  pub scene : SceneParts
  pub cut : CutParts
  pub dir : Dir
  pub row : List ℕ
  pub visits : List Visit

abbrev pub front_parts : SceneParts → CutParts → Dir → List ℕ → List Visit → FrontParts
front_parts scene cut dir row visits = record {
  scene = scene;
  cut = cut;
  dir = dir;
  row = row;
  visits = visits;
}

-- what every front keeps: the strips visited are those of the positions 0, 1, 2 .. in order, and
-- where one was visited the row is the last row of path values, along the whole image's rays, of
-- the strip visited last
pub record IsFront (front : FrontParts) : Type 0 where
  pub scene_kept : IsScene front.scene
  pub cut_kept : IsCut front.cut
  pub same_height : front.cut.height ≡ front.scene.left.height
  pub across : is_level front.dir ≡ false
  pub whole : length front.row ≡ row_length front.scene
  pub row_low : All (λ v. v ≤ MAX_PATH_VALUE) front.row
  pub few : length front.visits ≤ front.cut.strips
  pub in_order : (k : ℕ) (visit : Visit) → slice_get front.visits k ≡ Some visit
      → visit.strip ≡ strip_at front.dir k front.cut.strips
  pub last_held : (visit : Visit) → slice_get front.visits (length front.visits - 1) ≡ Some visit
      → let g = problem_of front.scene in
      HoldsRow g (last_row front.cut front.dir visit.strip) (path_value g front.dir) front.row

-- the front is of the parcel's scene and cut, and the parcel's strip is the one that comes next for
-- it
pub record ComesNextTo (front : FrontParts) (parcel : ParcelParts) : Type 0 where
  pub same_scene : front.scene ≡ parcel.scene
  pub same_cut : front.cut ≡ parcel.cut
  pub position : length front.visits ≡ position_of front.dir parcel.strip parcel.cut.strips
