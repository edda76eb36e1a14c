use Rattle.std.proofs.Common.{◌≡◌, ℕ, ◌+◌, ◌*◌, ◌^◌, ◌<◌, ◌≤◌, slice_index}
use Rattle.sgm_census.proofs.pack.append.Given as goal

abbrev pub invariant-loop-k : goal.invariant-loop-k
invariant-loop-k l =
    record {
      done : (j : ℕ) → j < l.k → slice_index l.words j ≡ slice_index l.fn.words j * 2 ^ l.by + slice_index l.bits j;
      left : (j : ℕ) → l.k ≤ j → slice_index l.words j ≡ slice_index l.fn.words j;
    }
