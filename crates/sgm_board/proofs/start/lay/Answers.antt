use Rattle.std.proofs.Common.{map}
use Rattle.sgm_strip.specs.Parcels.{IsParcel}
use Rattle.sgm_strip.specs.Fronts.{IsFront}
use Rattle.sgm_board.specs.declared.slot.Slot.TheVariants.{OfFront}
use Rattle.sgm_board.proofs.Getting.{All-push}
use Rattle.sgm_board.proofs.Laying.{front_more, parcel_more}
use Rattle.sgm_board.proofs.start.lay.Goals as goal

pub loop-front-preserved : goal.loop-front-preserved
loop-front-preserved c =
    let before = c.loop-front.yielded in
    let front = c.in-Some.front in
    let inv = c.loop-front.invariant in
    record {
      slots = front_more before front c.loop-front.slots.items _ c.in_ok-push.ensures.items inv.slots;
      kept = All-push IsFront before front inv.kept c.dir.ensures.kept;
    }

pub loop-parcel-preserved : goal.loop-parcel-preserved
loop-parcel-preserved c =
    let before = c.loop-parcel.yielded in
    let parcel = c.in-Some-parcel.parcel in
    let inv = c.loop-parcel.invariant in
    record {
      slots = parcel_more (map OfFront c.args.fronts.items) before parcel c.loop-parcel.slots.items _ c.in_ok-push-2.ensures.items inv.slots;
      kept = All-push IsParcel before parcel inv.kept c.strip.ensures.kept;
    }
