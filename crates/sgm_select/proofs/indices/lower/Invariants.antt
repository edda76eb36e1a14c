use Rattle.std.proofs.Common.{◌≡◌, ℕ, ◌+◌, ◌<◌, ◌≤◌, min, slice_index}
use Rattle.sgm_select.specs.Keys.{key_of}
use Rattle.sgm_select.proofs.indices.lower.Given as goal

abbrev pub invariant-loop-k : goal.invariant-loop-k
invariant-loop-k l =
    record {
      done : (j : ℕ) → j < l.k → slice_index l.keys j ≡ min (slice_index l.fn.keys j) (key_of (slice_index l.sums j) (l.skipped + j));
      left : (j : ℕ) → l.k ≤ j → slice_index l.keys j ≡ slice_index l.fn.keys j;
    }
