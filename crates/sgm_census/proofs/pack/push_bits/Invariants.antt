use Rattle.std.proofs.Common.{◌≡◌, ℕ, ◌+◌, ◌*◌, ◌<◌, ◌≤◌, ltb, slice_index}
use Rattle.std.specs.Int.{from_bool}
use Rattle.sgm_census.proofs.pack.push_bits.Given as goal

abbrev pub invariant-loop-k : goal.invariant-loop-k
invariant-loop-k l =
    record {
      done : (j : ℕ) → j < l.k → slice_index l.bits j ≡ 2 * slice_index l.fn.bits j + from_bool (ltb (slice_index l.values j) (slice_index l.centres j));
      left : (j : ℕ) → l.k ≤ j → slice_index l.bits j ≡ slice_index l.fn.bits j;
    }
