use Rattle.std.proofs.Common.{◌≡◌, ℕ, ◌<◌, ◌≤◌, slice_index}
use Rattle.sgm_census.specs.Packed.{without}
use Rattle.sgm_census.proofs.pack.drop_centres.Given as goal

abbrev pub invariant-loop-word : goal.invariant-loop-word
invariant-loop-word l =
    record {
      done : (k : ℕ) → k < l.word-index → slice_index l.words k ≡ without l.half (slice_index l.fn.words k);
      left : (k : ℕ) → l.word-index ≤ k → slice_index l.words k ≡ slice_index l.fn.words k;
    }
