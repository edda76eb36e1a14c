use Rattle.std.proofs.Common.{ℕ, ◌<◌, ◌≤◌, slice_index, Contains}
use Rattle.sgm_fine.proofs.small.least_of.Given as goal

abbrev pub invariant-loop-k : goal.invariant-loop-k
invariant-loop-k l = record {
  few : l.k ≤ 25;
  contained : Contains l.samples l.least;
  bound : (k : ℕ) → k < l.k → l.least ≤ slice_index l.samples k;
}
