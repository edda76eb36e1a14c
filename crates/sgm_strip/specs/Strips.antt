-- All strips of a scene.
use Rattle.std.specs.Prelude.{◌≡◌, ℕ, List, length, slice_get, Some, All}
use Rattle.sgm_strip.specs.Cuts.{CutParts, IsCut}
use Rattle.sgm_strip.specs.Scenes.{SceneParts}
use Rattle.sgm_strip.specs.Parcels.{ParcelParts, IsComplete}

-- the parcel is that of this strip
pub record IsStripOf (scene : SceneParts) (cut : CutParts) (strip : ℕ)
    (parcel : ParcelParts) : Type 0 where
  pub same_scene : parcel.scene ≡ scene
  pub same_cut : parcel.cut ≡ cut
  pub same_strip : parcel.strip ≡ strip

-- the parcels are those of all strips of the cut, in order
pub record AreStrips (scene : SceneParts) (cut : CutParts)
    (parcels : List ParcelParts) : Type 0 where
  pub cut_kept : IsCut cut
  pub same_height : cut.height ≡ scene.left.height
  pub all : length parcels ≡ cut.strips
  pub each : (strip : ℕ) (parcel : ParcelParts) → slice_get parcels strip ≡ Some parcel
      → IsStripOf scene cut strip parcel

-- the parcels are those of all strips of some cut, in order, and each has the sums of all eight
-- directions
pub record AreComplete (scene : SceneParts) (parcels : List ParcelParts) : Type 0 where
  pub cut : CutParts
  pub strips : AreStrips scene cut parcels
  pub complete : All (λ parcel. IsComplete parcel.done) parcels
