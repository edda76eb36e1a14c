use Rattle.std.proofs.Common.{◌≡◌, ℕ, ◌<◌, slice_index}
use Rattle.sgm_lanes.specs.Middles.{middle_of}
use Rattle.sgm_lanes.proofs.network.middles.Given as goal

abbrev pub invariant-loop-i : goal.invariant-loop-i
invariant-loop-i l =
    (k : ℕ) → k < l.i → slice_index l.into k ≡ middle_of (slice_index l.own k) (slice_index l.right k) (slice_index l.left k) (slice_index l.below k) (slice_index l.above k)
