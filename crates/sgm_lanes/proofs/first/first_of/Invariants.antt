use Rattle.std.proofs.Common.{◌≢◌, ◌*◌, ℕ, ◌<◌, slice_index}
use Rattle.sgm_lanes.proofs.first.first_of.Given as goal

abbrev pub invariant-loop-number : goal.invariant-loop-number
invariant-loop-number l = (k : ℕ) → k < 16 * l.number → slice_index l.values k ≢ l.value
