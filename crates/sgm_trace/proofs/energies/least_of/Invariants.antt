use Rattle.std.proofs.Common.{◌≡◌, ℕ, ◌<◌, ◌≤◌, length, slice_index}
use Rattle.sgm_trace.proofs.energies.least_of.Given as goal

abbrev pub invariant-loop-d : goal.invariant-loop-d
invariant-loop-d l =
    record {
      low : (k : ℕ) → k < l.d → l.least ≤ slice_index l.energies k;
      some : (k : ℕ) × (k < length l.energies) × (slice_index l.energies k ≡ l.least);
    }
