use Rattle.std.proofs.Common.{◌≡◌, ℕ, ◌<◌, ◌≤◌, false, get_or, vec_len, vec_capacity}
use Rattle.std.specs.Mem.Slots.{slots_items, slots_filled, slots_len}
use Rattle.std.specs.Mem.Slots.Ownership.{Filled}
use Rattle.sgm_board.specs.Emptied.{AreFirstFronts}
use Rattle.sgm_board.proofs.close.take_fronts.Given as goal

abbrev pub invariant-loop-place : goal.invariant-loop-place
invariant-loop-place l = record {
  items : slots_items l.closed.slots ≡ slots_items l.initial.closed.slots;
  long : slots_len l.closed.slots ≡ slots_len l.initial.closed.slots;
  full : Filled (slots_filled l.closed.slots) l.place (slots_len l.closed.slots);
  taken : (k : ℕ) → k < l.place → get_or (slots_filled l.closed.slots) k false ≡ false;
  count : vec_len l.fronts ≡ l.place;
  room : 6 ≤ vec_capacity l.fronts;
  fronts : AreFirstFronts (slots_items l.initial.closed.slots) l.fronts.items;
}
