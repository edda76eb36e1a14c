-- Fronts that went through all strips, and what a caller who goes on with them adds.
use Rattle.std.specs.Prelude.{◌≡◌, ℕ, List, ◌++◌, length, slice_get, Some, All}
use Rattle.sgm_energy.specs.declared.dir.Dir.{Dir}
use Rattle.sgm_energy.specs.Dirs.{strip_at}
use Rattle.sgm_strip.specs.Cuts.{CutParts}
use Rattle.sgm_strip.specs.Scenes.{SceneParts, row_length}
use Rattle.sgm_strip.specs.Parcels.{ParcelParts, IsComplete}
use Rattle.sgm_strip.specs.Fronts.{FrontParts}
use Rattle.sgm_strip.specs.Strips.{AreStrips}
use Rattle.sgm_strip.specs.declared.front.Visit.{Visit}
use Rattle.sgm_board.specs.Settled.{AreSettled, IsAt, IsFrontOf}

-- the front went through each strip of the cut once, in the order of its direction
pub record HasVisitedAll (cut : CutParts) (front : FrontParts) : Type 0 where
  pub all : length front.visits ≡ cut.strips
  pub in_order : (position : ℕ) (visit : Visit) → slice_get front.visits position ≡ Some visit
      → visit.strip ≡ strip_at front.dir position cut.strips

-- The parcels are those of all strips of the cut, in order, and in each all eight directions are
-- done. The fronts are the six, in order, and each went through all strips
pub record AreFinished (scene : SceneParts) (cut : CutParts) (parcels : List ParcelParts)
    (fronts : List FrontParts) : Type 0 where
  pub strips : AreStrips scene cut parcels
  pub complete : All (λ parcel. IsComplete parcel.done) parcels
  pub six : length fronts ≡ 6
  pub each : (dir : Dir) (front : FrontParts) → IsAt fronts dir front
      → IsFrontOf scene cut dir front
  pub visited : All (HasVisitedAll cut) fronts

-- parcels and fronts that are settled, of some scene and cut, and room for a row of that scene
pub record CanFinish (parcels : List ParcelParts) (fronts : List FrontParts)
    (room : ℕ) : Type 0 where
  pub scene : SceneParts
  pub cut : CutParts
  pub settled : AreSettled scene cut parcels fronts
  pub fits : room ≡ row_length scene

-- the front has the visits that it had, and then those of this worker
pub record GoesOnBy (worker : ℕ) (old new : FrontParts) : Type 0 where
  pub later : List Visit
  pub added : new.visits ≡ old.visits ++ later
  pub own : All (λ visit. visit.worker ≡ worker) later
