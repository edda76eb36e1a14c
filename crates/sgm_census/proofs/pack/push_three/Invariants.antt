use Rattle.std.proofs.Common.{◌≡◌, ℕ, ◌<◌, ◌≤◌, drop, slice_index, take}
use Rattle.sgm_census.specs.Packed.{pushed, lesser}
use Rattle.sgm_census.proofs.pack.push_three.Given as goal

abbrev pub invariant-loop-k : goal.invariant-loop-k
invariant-loop-k l =
    record {
      done : (j : ℕ) → j < l.k → slice_index l.bits j ≡ pushed (slice_index l.fn.bits j) (lesser (slice_index l.centres j) (take 3 (drop j l.values)));
      left : (j : ℕ) → l.k ≤ j → slice_index l.bits j ≡ slice_index l.fn.bits j;
    }
