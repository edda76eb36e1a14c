use Rattle.std.proofs.Common.{◌≡◌, ℕ, ◌<◌, ◌≤◌, slice_index}
use Rattle.sgm_lanes.specs.Middles.{smoothed}
use Rattle.sgm_lanes.proofs.smoothing.smooth_last.Given as goal

abbrev pub invariant-loop-i : goal.invariant-loop-i
invariant-loop-i l = record {
  each : (k : ℕ) → k < l.i → slice_index l.cells k ≡ smoothed (slice_index l.before k) (slice_index l.fn.cells k) (slice_index l.fn.cells k);
  left : (k : ℕ) → l.i ≤ k → slice_index l.cells k ≡ slice_index l.fn.cells k;
}
