-- Parcels and fronts as a board takes them.
use Rattle.std.specs.Prelude.{◌≡◌, ℕ, List, [], length, slice_get, Some, All}
use Rattle.sgm_energy.specs.declared.dir.Dir.{Dir}
use Rattle.sgm_energy.specs.Dirs.{front_of}
use Rattle.sgm_strip.specs.Cuts.{CutParts}
use Rattle.sgm_strip.specs.Scenes.{SceneParts}
use Rattle.sgm_strip.specs.Parcels.{ParcelParts, level_done}
use Rattle.sgm_strip.specs.Fronts.{FrontParts}
use Rattle.sgm_strip.specs.Strips.{AreStrips}

-- the front of this direction, of this scene and cut, that has visited no strip
pub record IsNewFront (scene : SceneParts) (cut : CutParts) (dir : Dir)
    (front : FrontParts) : Type 0 where
  pub same_scene : front.scene ≡ scene
  pub same_cut : front.cut ≡ cut
  pub same_dir : front.dir ≡ dir
  pub unvisited : front.visits ≡ []

-- the parcels are those of all strips of the cut, in order, with the two level directions done and
-- no other, and the fronts are the six, in order, without visits
pub record AreReady (scene : SceneParts) (cut : CutParts) (parcels : List ParcelParts)
    (fronts : List FrontParts) : Type 0 where
  pub strips : AreStrips scene cut parcels
  pub level : All (λ parcel. parcel.done ≡ level_done) parcels
  pub six : length fronts ≡ 6
  pub new : (dir : Dir) (place : ℕ) (front : FrontParts) → front_of dir ≡ Some place
      → slice_get fronts place ≡ Some front
      → IsNewFront scene cut dir front
