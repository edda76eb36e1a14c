-- Parcels and fronts as they are made.
use Rattle.std.specs.Prelude.{◌≡◌, ℕ, List, length, slice_get, Some}
use Rattle.sgm_energy.specs.declared.dir.Dir.{Dir}
use Rattle.sgm_energy.specs.Dirs.{front_of}
use Rattle.sgm_strip.specs.Cuts.{CutParts}
use Rattle.sgm_strip.specs.Scenes.{SceneParts}
use Rattle.sgm_strip.specs.Parcels.{ParcelParts, level_done}
use Rattle.sgm_strip.specs.Fronts.{FrontParts}
use Rattle.sgm_strip.specs.Strips.{IsStripOf}
use Rattle.sgm_board.specs.Ready.{IsNewFront}

-- the parcel of a strip, with the two level directions done and no other
pub record IsNewParcel (scene : SceneParts) (cut : CutParts) (strip : ℕ)
    (parcel : ParcelParts) : Type 0 where
  pub is : IsStripOf scene cut strip parcel
  pub level : parcel.done ≡ level_done

-- the fronts are the six, in order, and have visited no strip
pub record AreNewFronts (scene : SceneParts) (cut : CutParts)
    (fronts : List FrontParts) : Type 0 where
  pub six : length fronts ≡ 6
  pub new : (dir : Dir) (place : ℕ) (front : FrontParts) → front_of dir ≡ Some place
      → slice_get fronts place ≡ Some front
      → IsNewFront scene cut dir front
