use Rattle.std.proofs.Common.{◌≡◌, ℕ, ◌<◌, ◌≤◌, cond, false, slice_index, get_or}
use Rattle.sgm_census.proofs.cost.mask.Given as goal

abbrev pub invariant-loop-i : goal.invariant-loop-i
invariant-loop-i l =
    record {
      done : (k : ℕ) → k < l.i → slice_index l.into k ≡ cond (get_or l.present k false) (slice_index l.fn.into k) l.missing;
      left : (k : ℕ) → l.i ≤ k → slice_index l.into k ≡ slice_index l.fn.into k;
    }
