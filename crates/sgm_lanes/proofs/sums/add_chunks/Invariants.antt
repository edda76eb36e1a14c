use Rattle.std.proofs.Common.{◌≡◌, ℕ, ◌<◌, ◌≤◌, ◌+◌, ◌*◌, slice_index}
use Rattle.sgm_lanes.proofs.sums.add_chunks.Given as goal

abbrev pub invariant-loop-number : goal.invariant-loop-number
invariant-loop-number l = record {
  done : (k : ℕ) → k < 16 * l.number → slice_index l.sums k ≡ slice_index l.fn.sums k + slice_index l.v k;
  left : (k : ℕ) → 16 * l.number ≤ k → slice_index l.sums k ≡ slice_index l.fn.sums k;
}
