-- The slots of a closed board while they are emptied. No public clause speaks of this.
use Rattle.std.specs.Prelude.{◌≡◌, ℕ, ◌<◌, List, slice_get, Some}
use mathlib.Core.Option.{some}
use lib.ListN.{get_elem?}
use Rattle.sgm_strip.specs.Parcels.{ParcelParts}
use Rattle.sgm_strip.specs.Fronts.{FrontParts}
use Rattle.sgm_board.specs.Words.{strip_word}
use Rattle.sgm_board.specs.declared.slot.Slot.{Slot}
use Rattle.sgm_board.specs.declared.slot.Slot.TheVariants.{OfStrip, OfFront}

-- the first six slots have fronts, and those of so many strips have parcels
abbrev pub HaveFronts : List Slot → Type 0
HaveFronts slots = (place : ℕ) → place < 6
    → (front : FrontParts) × (get_elem? slots place ≡ some (OfFront front))

abbrev pub HaveParcels : List Slot → ℕ → Type 0
HaveParcels slots strips = (strip : ℕ) → strip < strips
    → (parcel : ParcelParts) × (get_elem? slots (strip_word strip) ≡ some (OfStrip parcel))

-- these are the first of the fronts in the slots, and these the first of the parcels
abbrev pub AreFirstFronts : List Slot → List FrontParts → Type 0
AreFirstFronts slots fronts = (place : ℕ) (front : FrontParts) → slice_get fronts place ≡ Some front
    → get_elem? slots place ≡ some (OfFront front)

abbrev pub AreFirstParcels : List Slot → List ParcelParts → Type 0
AreFirstParcels slots parcels = (strip : ℕ) (parcel : ParcelParts)
    → slice_get parcels strip ≡ Some parcel
    → get_elem? slots (strip_word strip) ≡ some (OfStrip parcel)
