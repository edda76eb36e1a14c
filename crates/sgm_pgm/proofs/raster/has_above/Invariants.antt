use Rattle.std.proofs.Common.{◌≡◌, ◌<◌, ◌≤◌, ℕ, false, get_or}
use Rattle.sgm_pgm.proofs.raster.has_above.Given as goal

abbrev pub invariant-loop-sample : goal.invariant-loop-sample
invariant-loop-sample l = l.found ≡ false → (k : ℕ) → k < l.sample-index → get_or l.samples k 0 ≤ l.maxval
