use Rattle.std.proofs.Common.{◌∙◌, ℕ, ◌+◌, Bool, ◌||◌, sym, ap, take, subst}
use Rattle.sgm_io.specs.Piece.{FillsUpTo}
use Rattle.sgm_io.specs.Trips.{fails_append}
use Rattle.std.proofs.Math.Bool.{or-false}
use Rattle.sgm_io.proofs.FillLaws.{FillsUpTo-same}
use Rattle.sgm_io.proofs.TripLaws.{fails_append-more}
use Rattle.sgm_io.proofs.faults.Faults.room.Goals as goal
use Rattle.sgm_io.proofs.faults.Faults.room.Goals.{in-Some, in_default}

pub loop-trip-preserved : goal.loop-trip-preserved
loop-trip-preserved c =
    let trips = c.deref-trip-items.result.now in
    let i = c.loop-trip.trip-index in
    let stops : ℕ → Bool = fails_append (take i trips) c.args.name.now in
    let P : ℕ → Type 0 = λ count. FillsUpTo (fails_append (take (i + 1) trips) c.args.name.now) c.args.at c.args.most count in
    let more = λ (at : ℕ). fails_append-more trips c.args.name.now i c.trip-item.result at c.loop-trip-test.true c.trip-item.is in
    elim c.match-stop.branch [
      | in-Some w ↦ subst P (sym w.count-is) (FillsUpTo-same _ _ _ _ _
          (λ at. sym (more at ∙ ap (λ (b : Bool). stops at || b) (w.in-Some.ensures at)))
          (w.fill_to-count.ensures.fills stops c.args.most c.loop-trip.invariant))
      | in_default w ↦ subst P (sym w.count-is) (FillsUpTo-same _ _ _ _ _
          (λ at. sym (more at ∙ ap (λ (b : Bool). stops at || b) (w.in_default.ensures at) ∙ or-false (stops at)))
          c.loop-trip.invariant)
    ]
