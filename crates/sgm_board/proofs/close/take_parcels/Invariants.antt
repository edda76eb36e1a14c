use Rattle.std.proofs.Common.{◌≡◌, ℕ, ◌+◌, ◌<◌, ◌≤◌, false, get_or, vec_len, vec_capacity}
use Rattle.std.specs.Mem.Slots.{slots_items, slots_filled, slots_len}
use Rattle.std.specs.Mem.Slots.Ownership.{Filled}
use Rattle.sgm_board.specs.Emptied.{AreFirstParcels}
use Rattle.sgm_board.proofs.close.take_parcels.Given as goal

abbrev pub invariant-loop-strip : goal.invariant-loop-strip
invariant-loop-strip l = record {
  items : slots_items l.closed.slots ≡ slots_items l.initial.closed.slots;
  long : slots_len l.closed.slots ≡ slots_len l.initial.closed.slots;
  full : Filled (slots_filled l.closed.slots) (6 + l.strip) (slots_len l.closed.slots);
  taken : (k : ℕ) → k < 6 + l.strip → get_or (slots_filled l.closed.slots) k false ≡ false;
  count : vec_len l.parcels ≡ l.strip;
  room : l.strips ≤ vec_capacity l.parcels;
  parcels : AreFirstParcels (slots_items l.initial.closed.slots) l.parcels.items;
}
