use Rattle.std.proofs.Common.{◌≡◌, ◌+◌, ◌*◌, ◌<◌, ℕ, length, get_or}
use Rattle.sgm_pgm.proofs.write.write_samples.Given as goal

-- the samples before the index are written
abbrev pub invariant-loop-index : goal.invariant-loop-index
invariant-loop-index l = record {
  full : length l.samples * 2 ≡ length l.into;
  bytes : (k : ℕ) → get_or l.into k 0 < 256;
  written : (k : ℕ) → k < l.index → get_or l.samples k 0 ≡ 256 * get_or l.into (2 * k) 0 + get_or l.into (2 * k + 1) 0;
}
