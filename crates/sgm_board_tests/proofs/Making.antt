-- Parcels and fronts of which a board can be made.
use Rattle.std.proofs.Common.{◌≡◌, ◌∙◌, ℕ, List, length, Some, sym, subst}
use Rattle.std.specs.Prelude.{All, slice_get}
use Rattle.sgm_energy.specs.declared.dir.Dir.{Dir}
use Rattle.sgm_energy.specs.Dirs.{dir_of_front}
use Rattle.sgm_strip.specs.Cuts.{CutParts}
use Rattle.sgm_strip.specs.Scenes.{SceneParts}
use Rattle.sgm_strip.specs.Parcels.{ParcelParts, level_done}
use Rattle.sgm_strip.specs.Fronts.{FrontParts}
use Rattle.sgm_strip.specs.Strips.{AreStrips}
use Rattle.sgm_board.specs.Ready.{AreReady, IsNewFront}
use Rattle.sgm_board.proofs.Dirs.{dir_of_front-front_of}

pub ready : (scene : SceneParts) (cut : CutParts) (parcels : List ParcelParts) (fronts : List FrontParts) → AreStrips scene cut parcels → All (λ parcel. parcel.done ≡ level_done) parcels → length fronts ≡ 6
    → ((place : ℕ) (front : FrontParts) → slice_get fronts place ≡ Some front → (dir : Dir) × (dir_of_front place ≡ Some dir) × IsNewFront scene cut dir front) → AreReady scene cut parcels fronts
ready scene cut parcels fronts strips level six new = record {
  strips = strips;
  level = level;
  six = six;
  new = λ dir place front at stands.
      let found = new place front stands in
      let both : Some found.0 ≡ Some dir = sym found.1 ∙ dir_of_front-front_of dir place at in
      let same : found.0 ≡ dir = cc in
      subst (λ (d : Dir). IsNewFront scene cut d front) same found.2;
}
