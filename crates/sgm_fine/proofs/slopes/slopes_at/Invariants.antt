use Rattle.std.proofs.Common.{◌≤◌}
use Rattle.sgm_fine.specs.Slopes.{step_at}
use Rattle.sgm_fine.specs.Windows.{column_of, row_of_place}
use Rattle.sgm_fine.proofs.SlopeSums.{SumsBelow}
use Rattle.sgm_fine.proofs.slopes.slopes_at.Given as goal

-- the steps to the pixels before this one are added
abbrev pub invariant-loop-k : goal.invariant-loop-k
invariant-loop-k l = record {
  few : l.k ≤ 25;
  across : SumsBelow l.across column_of (step_at l.map l.x l.y l.m) l.k;
  down : SumsBelow l.down row_of_place (step_at l.map l.x l.y l.m) l.k;
}
