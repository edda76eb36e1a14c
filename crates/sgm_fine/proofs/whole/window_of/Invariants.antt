use Rattle.std.proofs.Common.{◌≡◌, ◌≤◌, ℕ, ◌<◌, length}
use Rattle.sgm_fine.proofs.SmallRights.{AreAt}
use Rattle.sgm_fine.proofs.whole.window_of.Given as goal

-- the places before this one are worked out
abbrev pub invariant-loop-k : goal.invariant-loop-k
invariant-loop-k l = record {
  few : l.k ≤ 32;
  left : l.window.left ≡ l.gathered.left;
  long_after : length l.window.after ≡ 32;
  long_here : length l.window.here ≡ 32;
  long_before : length l.window.before ≡ 32;
  each : (k : ℕ) → k < l.k → AreAt l.gathered l.window.after l.window.here l.window.before k;
}
