use Rattle.std.proofs.Common.{◌≡◌, ℕ, ◌<◌, drop, slice_index, take}
use Rattle.sgm_census.specs.Packed.{pushed, lesser}
use Rattle.sgm_census.proofs.pack.write_nine.Given as goal

abbrev pub invariant-loop-k : goal.invariant-loop-k
invariant-loop-k l = (j : ℕ) → j < l.k → slice_index l.bits j ≡ pushed 0 (lesser (slice_index l.centres j) (take 9 (drop j l.values)))
