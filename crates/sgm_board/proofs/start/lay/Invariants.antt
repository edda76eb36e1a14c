use Rattle.std.proofs.Common.{◌≡◌, ◌++◌, map, All}
use Rattle.sgm_strip.specs.Parcels.{IsParcel}
use Rattle.sgm_strip.specs.Fronts.{IsFront}
use Rattle.sgm_board.specs.declared.slot.Slot.TheVariants.{OfStrip, OfFront}
use Rattle.sgm_board.proofs.start.lay.Given as goal

abbrev pub invariant-loop-front : goal.invariant-loop-front
invariant-loop-front l = record {
  slots : l.slots.items ≡ map OfFront l.yielded;
  kept : All IsFront l.yielded;
}

abbrev pub invariant-loop-parcel : goal.invariant-loop-parcel
invariant-loop-parcel l = record {
  slots : l.slots.items ≡ map OfFront l.fn.fronts.items ++ map OfStrip l.yielded;
  kept : All IsParcel l.yielded;
}
