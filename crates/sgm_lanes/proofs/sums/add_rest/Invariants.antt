use Rattle.std.proofs.Common.{◌≡◌, ℕ, ◌<◌, ◌≤◌, ◌+◌, slice_index}
use Rattle.sgm_lanes.proofs.sums.add_rest.Given as goal

abbrev pub invariant-loop-i : goal.invariant-loop-i
invariant-loop-i l = record {
  done : (k : ℕ) → l.start ≤ k → k < l.i → slice_index l.sums k ≡ slice_index l.fn.sums k + slice_index l.v k;
  before : (k : ℕ) → k < l.start → slice_index l.sums k ≡ slice_index l.fn.sums k;
  left : (k : ℕ) → l.start ≤ k → l.i ≤ k → slice_index l.sums k ≡ slice_index l.fn.sums k;
}
