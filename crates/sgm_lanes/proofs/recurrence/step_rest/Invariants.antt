use Rattle.std.proofs.Common.{◌≡◌, ℕ, ◌<◌, ◌≤◌, slice_index}
use Rattle.sgm_lanes.specs.Steps.{StepsTo}
use Rattle.sgm_lanes.proofs.recurrence.step_rest.Given as goal

abbrev pub invariant-loop-d : goal.invariant-loop-d
invariant-loop-d l = record {
  before : (k : ℕ) → k < l.start → slice_index l.into k ≡ slice_index l.fn.into k;
  each : (k : ℕ) → l.start ≤ k → k < l.d → StepsTo l.terms.prev.now l.terms.floor l.terms.cost.now l.terms.p1 l.terms.p2 k (slice_index l.into k);
}
