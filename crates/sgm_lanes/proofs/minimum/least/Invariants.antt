use Rattle.std.proofs.Common.{ℕ, ◌<◌, ◌≤◌, slice_index, Contains}
use Rattle.sgm_lanes.proofs.minimum.least.Given as goal

abbrev pub invariant-loop-i : goal.invariant-loop-i
invariant-loop-i l = record {
  contained : Contains l.v l.low;
  least : (k : ℕ) → k < l.i → l.low ≤ slice_index l.v k;
}
