use Rattle.std.proofs.Common.{◌≡◌, ℕ, ◌<◌, ◌≤◌, ◌+◌, ◌⊎◌, slice_index, IsTrue, nat_eq}
use Rattle.std.specs.Prelude.{not}
use Rattle.sgm_lanes.specs.Steps.{StepsTo}
use Rattle.sgm_lanes.proofs.Lanes.{high, low}
use Rattle.sgm_lanes.proofs.recurrence.step_chunks.Given as goal

abbrev pub invariant-loop-number : goal.invariant-loop-number
invariant-loop-number g l = let back = not (nat_eq g.row.BACK 0) in record {
  begun : 1 ≤ l.number;
  inside : l.number ≤ l.chunks;
  done : (d : ℕ) → low back l.chunks l.number ≤ d → d < high back l.chunks l.number
      → StepsTo l.terms.prev.now l.terms.floor l.terms.cost.now l.terms.p1 l.terms.p2 d (slice_index l.into d);
  added : IsTrue (not (nat_eq g.row.ADD 0)) → (d : ℕ) → low back l.chunks l.number ≤ d → d < high back l.chunks l.number
      → slice_index l.sums d ≡ slice_index l.fn.sums d + slice_index l.into d;
  left : IsTrue (not (nat_eq g.row.ADD 0)) → (k : ℕ) → (k < low back l.chunks l.number) ⊎ (high back l.chunks l.number ≤ k)
      → slice_index l.sums k ≡ slice_index l.fn.sums k;
}
