use Rattle.std.proofs.Common.{◌≡◌, ℕ, ◌+◌, ◌-◌, ◌*◌, ◌/◌, ◌%◌, ◌<◌, ◌≤◌}
use Rattle.sgm_fine.specs.Bands.{AreLanes}
use Rattle.sgm_fine.specs.Windows.{number}
use Rattle.sgm_fine.proofs.whole.gather_left.Given as goal

-- the rows before this one are copied
abbrev pub invariant-loop-j : goal.invariant-loop-j
invariant-loop-j l = record {
  few : l.j ≤ 5;
  each : (k : ℕ) → k < 5 * l.j → number l.into k ≡ number l.left (4160 * (k / 5) + (l.x + k % 5 - 2));
  rest : AreLanes l.into;
}
