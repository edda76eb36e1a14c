use Rattle.std.proofs.Common.{ℕ, ◌<◌, ◌≤◌, slice_index, Contains}
use Rattle.sgm_lanes.proofs.minimum.least_of_few.Given as goal

abbrev pub invariant-loop-x : goal.invariant-loop-x
invariant-loop-x l = record {
  contained : Contains l.v l.low;
  least : (k : ℕ) → k < l.x-index → l.low ≤ slice_index l.v k;
}
