use Rattle.std.proofs.Common.{◌≡◌, ℕ, ◌<◌, ◌≤◌, ◌+◌, ◌*◌, ◌/◌, length, None, slice_index_or}
use Rattle.sgm_fine.specs.Bands.{packed}
use Rattle.sgm_fine.specs.Windows.{number}
use Rattle.sgm_fine.proofs.band.pack_row.Given as goal

-- the samples before these ones are packed
abbrev pub invariant-loop-n : goal.invariant-loop-n
invariant-loop-n l = record {
  few : l.n ≤ length l.row / 64;
  written : (q : ℕ) → q < 64 * l.n → number l.band (l.from + q) ≡ packed (slice_index_or l.row q None);
  kept : (k : ℕ) → k < l.from → number l.band k ≡ number l.initial.band k;
}
