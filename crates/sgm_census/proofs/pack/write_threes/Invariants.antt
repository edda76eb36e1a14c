use Rattle.std.proofs.Common.{◌≡◌, ℕ, ◌*◌, ◌<◌, length, take, drop, slice_index}
use Rattle.sgm_census.specs.Packed.{pushed, lesser}
use Rattle.sgm_census.proofs.pack.write_threes.Given as goal

abbrev pub invariant-loop-i : goal.invariant-loop-i
invariant-loop-i l = (k : ℕ) → k < length l.bits → slice_index l.bits k ≡ pushed 0 (lesser (slice_index l.centres k) (take (3 * l.i) (drop k l.row)))
