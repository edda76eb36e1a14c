-- Parcels and fronts that fit one another: as a board gives them back.
use Rattle.std.specs.Prelude.{◌≡◌, ℕ, true, nat_lt, List, length, slice_get, Some, All}
use Rattle.sgm_energy.specs.declared.dir.Dir.{Dir}
use Rattle.sgm_energy.specs.declared.dir.Dir.TheVariants.{Right, Left}
use Rattle.sgm_energy.specs.Dirs.{front_of, position_of}
use Rattle.sgm_strip.specs.Cuts.{CutParts}
use Rattle.sgm_strip.specs.Scenes.{SceneParts}
use Rattle.sgm_strip.specs.Parcels.{ParcelParts, is_done}
use Rattle.sgm_strip.specs.Fronts.{FrontParts}
use Rattle.sgm_strip.specs.Strips.{AreStrips}

-- the front of this direction, of this scene and cut
pub record IsFrontOf (scene : SceneParts) (cut : CutParts) (dir : Dir)
    (front : FrontParts) : Type 0 where
  pub same_scene : front.scene ≡ scene
  pub same_cut : front.cut ≡ cut
  pub same_dir : front.dir ≡ dir

-- the front of a direction stands at the place of its number
abbrev pub IsAt : List FrontParts → Dir → FrontParts → Type 0
IsAt fronts dir front = (place : ℕ) × (front_of dir ≡ Some place)
    × (slice_get fronts place ≡ Some front)

-- The parcels are those of all strips of the cut, in order, and the fronts are the six, in order.
-- In each parcel the two level directions are done, and where a front has k visits its direction is
-- done in just the parcels of the positions below k
pub record AreSettled (scene : SceneParts) (cut : CutParts) (parcels : List ParcelParts)
    (fronts : List FrontParts) : Type 0 where
  pub strips : AreStrips scene cut parcels
  pub level : All (λ parcel. (is_done parcel.done Right ≡ true)
      × (is_done parcel.done Left ≡ true)) parcels
  pub six : length fronts ≡ 6
  pub each : (dir : Dir) (front : FrontParts) → IsAt fronts dir front
      → IsFrontOf scene cut dir front
  pub done : (dir : Dir) (strip : ℕ) (front : FrontParts) (parcel : ParcelParts)
      → IsAt fronts dir front
      → slice_get parcels strip ≡ Some parcel
      → is_done parcel.done dir ≡ nat_lt (position_of dir strip cut.strips) (length front.visits)
