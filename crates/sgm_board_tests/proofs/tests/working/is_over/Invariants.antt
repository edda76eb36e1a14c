use Rattle.std.proofs.Common.{◌≡◌}
use Rattle.sgm_board.specs.Boards.{parts_of, IsIdlePassOf}
use Rattle.sgm_board_tests.proofs.tests.working.is_over.Given as goal

abbrev pub invariant-loop-number : goal.invariant-loop-number
invariant-loop-number l = record {
  idle : IsIdlePassOf l.board l.pass;
  gathered : (parts_of l.pass).gathered ≡ (parts_of l.fn.pass).gathered;
}
