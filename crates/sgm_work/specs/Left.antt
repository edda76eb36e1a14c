-- What is left to do in a direction, and a front with which it is done. No public clause speaks of
-- this.
use Rattle.std.specs.Prelude.{◌≡◌, ◌≢◌, ℕ, List, slice_get, Some, nat_lt}
use Rattle.sgm_energy.specs.declared.dir.Dir.{Dir}
use Rattle.sgm_energy.specs.Dirs.{number_of, position_of}
use Rattle.sgm_strip.specs.Parcels.{ParcelParts, is_done}
use Rattle.sgm_strip.specs.Fronts.{FrontParts}
use Rattle.sgm_board.specs.Settled.{IsFrontOf}
use Rattle.sgm_work.specs.Finished.{GoesOnBy, HasVisitedAll}

-- the direction is done in just the parcels at its first k positions
abbrev pub IsDoneFirst : Dir → ℕ → ℕ → List ParcelParts → Type 0
IsDoneFirst dir strips k parcels =
    (strip : ℕ) (parcel : ParcelParts) → slice_get parcels strip ≡ Some parcel
    → is_done parcel.done dir ≡ nat_lt (position_of dir strip strips) k

-- each other direction is done where it was
abbrev pub KeepsOthers : Dir → List ParcelParts → List ParcelParts → Type 0
KeepsOthers dir old new =
    (strip : ℕ) (before after : ParcelParts) (other : Dir) → number_of other ≢ number_of dir
    → slice_get old strip ≡ Some before → slice_get new strip ≡ Some after
    → is_done after.done other ≡ is_done before.done other

-- it is the same front, which has visited all strips, those that it had not visited by the caller
pub record IsFinished (old new : FrontParts) : Type 0 where
  pub same : IsFrontOf old.scene old.cut old.dir new
  pub visited : HasVisitedAll old.cut new
  pub goes_on : GoesOnBy 16 old new
