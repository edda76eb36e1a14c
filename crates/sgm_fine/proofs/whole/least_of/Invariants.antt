use Rattle.std.proofs.Common.{◌≤◌, ℕ, ◌<◌, ◌≤ℤ◌}
use Rattle.sgm_fine.specs.Windows.{number}
use Rattle.sgm_fine.proofs.whole.least_of.Given as goal

-- no number of the places before this one is less
abbrev pub invariant-loop-k : goal.invariant-loop-k
invariant-loop-k l = record {
  few : l.k ≤ 32;
  first : (k : ℕ) → k < l.k → l.least ≤ℤ number l.a k;
  second : (k : ℕ) → k < l.k → l.least ≤ℤ number l.b k;
  third : (k : ℕ) → k < l.k → l.least ≤ℤ number l.c k;
  fourth : (k : ℕ) → k < l.k → l.least ≤ℤ number l.d k;
}
