use Rattle.std.proofs.Common.{◌≡◌, ◌<◌, ◌+◌, ℕ, Bool, false, List, length, get_or, arith, ap, refl, sym, ◌∙◌, subst}
use Rattle.std.specs.Mem.Slots.{slots_items, slots_filled, slots_len, slots_counts}
use Rattle.std.specs.Mem.Slots.Ownership.{Filled}
use mathlib.Core.Option.{some, some-injective}
use lib.ListN.{get_elem?}
use Rattle.sgm_board.specs.declared.slot.Slot.{Slot}
use Rattle.sgm_board.specs.declared.slot.Slot.TheVariants.{OfFront}
use Rattle.sgm_board.specs.Emptied.{AreFirstFronts}
use Rattle.sgm_board.proofs.Emptying.{AreFirstFronts-push, still_full, one_empty}
use Rattle.sgm_board.proofs.close.take_fronts.Goals as goal

pub unreachable-requires : goal.unreachable-requires
unreachable-requires c =
    let x = c.requires.each c.loop-place.place c.loop-place-test.true in
    c.in_default.not-OfFront x.0 (some-injective c.take.result (OfFront x.0) (sym c.take.ensures.value ∙ (ap (λ (xs : List Slot). get_elem? xs c.loop-place.place) c.loop-place.invariant.items ∙ x.1)))

pub loop-place-preserved : goal.loop-place-preserved
loop-place-preserved c =
    let inv = c.loop-place.invariant in
    let did = c.take.ensures.others in
    let i = c.loop-place.place in
    let row = c.loop-place.closed.slots in
    let slots = slots_items c.args.closed.now.slots in
    let short : i < length (slots_filled row) = omega (arith, (slots_counts row).1, inv.long, c.requires.full.0, c.loop-place-test.true) in
    record {
      items = did.0 ∙ inv.items;
      long = did.2 ∙ inv.long;
      full = subst (λ (z : List Bool × ℕ). Filled z.0 (i + 1) z.1) (λ j. (sym did.1 j, sym did.2 j)) (still_full (slots_filled row) i (i + 1) (slots_len row) refl inv.full);
      taken = subst (λ (fs : List Bool). (k : ℕ) → k < i + 1 → get_or fs k false ≡ false) (sym did.1) (one_empty (slots_filled row) i (i + 1) refl short inv.taken);
      count = omega (arith, c.push_reserved.ensures.len, inv.count);
      room = omega (arith, c.push_reserved.ensures.capacity, inv.room);
      fronts = subst (AreFirstFronts slots) (sym c.push_reserved.ensures.items)
          (AreFirstFronts-push slots c.loop-place.fronts.items c.in-OfFront.front i (omega (arith, inv.count, c.loop-place.fronts.ok)) inv.fronts
          (ap (λ (xs : List Slot). get_elem? xs i) (sym inv.items) ∙ (c.take.ensures.value ∙ ap some c.in-OfFront.is)));
    }
