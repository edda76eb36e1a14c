use Rattle.std.proofs.Common.{◌≡◌, ◌<◌, ℕ, length, get_or}
use Rattle.sgm_pgm.proofs.raster.single_bytes.Given as goal

-- the samples before the index are made
abbrev pub invariant-loop-index : goal.invariant-loop-index
invariant-loop-index l = record {
  full : length l.samples.items ≡ length l.raster;
  made : (k : ℕ) → k < l.index → get_or l.samples.items k 0 ≡ get_or l.raster k 0;
}
