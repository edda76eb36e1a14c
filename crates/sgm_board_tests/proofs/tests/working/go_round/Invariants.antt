use Rattle.std.proofs.Common.{◌≡◌}
use Rattle.sgm_board.specs.Boards.{parts_of, IsIdlePassOf}
use Rattle.sgm_board_tests.proofs.tests.working.go_round.Given as goal

abbrev pub invariant-loop-strip : goal.invariant-loop-strip
invariant-loop-strip l = record {
  idle : IsIdlePassOf l.board l.pass;
  spare : l.spare ≡ l.fn.spare;
  gathered : (parts_of l.pass).gathered ≡ (parts_of l.fn.pass).gathered;
}
