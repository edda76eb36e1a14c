use Rattle.std.proofs.Common.{◌≡◌, ℕ, ◌+◌, ◌<◌, ◌≤◌, ◌⊎◌, slice_index}
use Rattle.sgm_path.proofs.pixel.begin.Given as goal

abbrev pub invariant-loop-d : goal.invariant-loop-d
invariant-loop-d l =
    record {
      others : (k : ℕ) → (k < l.at) ⊎ (l.at + l.count ≤ k) → slice_index l.values k ≡ slice_index l.fn.values k;
      each : (k : ℕ) → k < l.d → slice_index l.values (l.at + k) ≡ slice_index l.costs (l.at + k);
    }
