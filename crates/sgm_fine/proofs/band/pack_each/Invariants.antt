use Rattle.std.proofs.Common.{◌≡◌, ℕ, ◌<◌, ◌≤◌, ◌+◌, length, None, slice_index_or}
use Rattle.sgm_fine.specs.Bands.{packed}
use Rattle.sgm_fine.specs.Windows.{number}
use Rattle.sgm_fine.proofs.band.pack_each.Given as goal

-- the samples before this one are packed
abbrev pub invariant-loop-q : goal.invariant-loop-q
invariant-loop-q l = record {
  few : l.q ≤ length l.samples;
  len : length l.band ≡ 20800;
  written : (q : ℕ) → q < l.q → number l.band (l.from + q) ≡ packed (slice_index_or l.samples q None);
  kept : (k : ℕ) → k < l.from → number l.band k ≡ number l.initial.band k;
}
