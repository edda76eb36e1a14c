use Rattle.std.proofs.Common.{◌≡◌, ℕ, ◌<◌, ◌≤◌, ◌^◌, length, pos, ◌+ℤ◌, ◌-ℤ◌, ◌*ℤ◌}
use Rattle.sgm_base.specs.Ranges.{Within}
use Rattle.sgm_fine.specs.Windows.{number}
use Rattle.sgm_fine.proofs.samples.columns_of.Given as goal

-- the columns before this one are placed
abbrev pub invariant-loop-i : goal.invariant-loop-i
invariant-loop-i l = record {
  len : length l.columns ≡ 5;
  few : l.i ≤ 5;
  each : (j : ℕ) → j < l.i → number l.columns j
      ≡ ((pos 16 *ℤ ((pos l.at.x +ℤ (pos j -ℤ pos 2)) -ℤ l.at.first)) -ℤ pos l.at.value) -ℤ number l.across j;
  small : (j : ℕ) → j < l.i → Within (2 ^ 22) (number l.columns j);
}
