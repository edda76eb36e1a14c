use Rattle.std.proofs.Common.{ℕ, ◌<◌, ◌≤◌, slice_index, Contains}
use Rattle.sgm_fine.proofs.small.greatest_of.Given as goal

abbrev pub invariant-loop-k : goal.invariant-loop-k
invariant-loop-k l = record {
  few : l.k ≤ 25;
  contained : Contains l.samples l.greatest;
  bound : (k : ℕ) → k < l.k → slice_index l.samples k ≤ l.greatest;
}
