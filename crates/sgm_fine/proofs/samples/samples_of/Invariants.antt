use Rattle.std.proofs.Common.{◌+◌, ◌*◌, ◌<◌, ◌≤◌}
use Rattle.sgm_fine.proofs.WindowSamples.{IsFilled}
use Rattle.sgm_fine.proofs.samples.samples_of.Given as goal

-- the rows before this one are gathered
abbrev pub invariant-loop-j : goal.invariant-loop-j
invariant-loop-j g l = record { few : l.j ≤ 5; before : IsFilled l.window l.left l.right l.lie l.at (5 * l.j) }

-- and of this one the columns before
abbrev pub invariant-loop-i : goal.invariant-loop-i
invariant-loop-i g l = record {
  row : l.j < 5;
  few : l.i ≤ 5;
  before : IsFilled l.window l.left l.right l.lie l.at (5 * l.j + l.i);
}
