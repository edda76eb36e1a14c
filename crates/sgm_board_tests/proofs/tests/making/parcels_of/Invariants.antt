use Rattle.std.proofs.Common.{◌≡◌, ℕ, length, All, Some}
use Rattle.std.specs.Prelude.{slice_get}
use Rattle.sgm_strip.specs.Parcels.{IsOf, ParcelParts, level_done}
use Rattle.sgm_strip.specs.Strips.{IsStripOf}
use Rattle.sgm_board_tests.proofs.tests.making.parcels_of.Given as goal

-- the parcels of the strips before this one are made
abbrev pub invariant-loop-strip : goal.invariant-loop-strip
invariant-loop-strip l = record {
  all : length l.parcels.items ≡ l.strip;
  each : (strip : ℕ) (parcel : ParcelParts) → slice_get l.parcels.items strip ≡ Some parcel → IsStripOf l.scene l.cut strip parcel;
  level : All (λ parcel. parcel.done ≡ level_done) l.parcels.items;
  kind : All (IsOf l.scene l.cut) l.parcels.items;
}
