use Rattle.std.proofs.Common.{◌≡◌, ℕ, ◌<◌, ◌≤◌, ◌*◌, ◌%◌, length, slice_index, Contains}
use Rattle.sgm_lanes.proofs.minimum.least_by_lane.Given as goal

abbrev pub invariant-loop-number : goal.invariant-loop-number
invariant-loop-number l = record {
  len : length l.low ≡ 16;
  contained : (i : ℕ) → i < 16 → Contains l.v (slice_index l.low i);
  least : (k : ℕ) → k < 16 * l.number → slice_index l.low (k % 16) ≤ slice_index l.v k;
}
