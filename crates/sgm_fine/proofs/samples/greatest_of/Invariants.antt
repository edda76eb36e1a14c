use Rattle.std.proofs.Common.{ℕ, ◌<◌, ◌≤◌, ◌≤ℤ◌}
use Rattle.sgm_fine.specs.Windows.{number}
use Rattle.sgm_fine.proofs.samples.greatest_of.Given as goal

abbrev pub invariant-loop-n : goal.invariant-loop-n
invariant-loop-n l = record {
  few : l.n ≤ 5;
  bound : (j : ℕ) → j < l.n → number l.places j ≤ℤ l.greatest;
}
