use Rattle.std.proofs.Common.{◌≡◌, ℕ, ◌<◌, ◌≤◌, length, pos, slice_index}
use Rattle.sgm_fine.specs.Small.{halved}
use Rattle.sgm_fine.specs.Windows.{number}
use Rattle.sgm_fine.proofs.small.made_small.Given as goal

-- the samples before this one are made small
abbrev pub invariant-loop-k : goal.invariant-loop-k
invariant-loop-k l = record {
  len : length l.numbers ≡ 32;
  few : l.k ≤ 25;
  made : (k : ℕ) → k < l.k → number l.numbers k ≡ pos (halved l.least l.halvings (slice_index l.samples k));
  rest : (k : ℕ) → l.k ≤ k → number l.numbers k ≡ pos 0;
}
