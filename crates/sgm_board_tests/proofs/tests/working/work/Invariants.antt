use Rattle.std.proofs.Common.{◌≡◌}
use Rattle.sgm_strip.specs.Scenes.{row_length}
use Rattle.sgm_board.specs.Boards.{parts_of, scene_of, IsIdlePassOf}
use Rattle.sgm_board_tests.proofs.tests.working.work.Given as goal

abbrev pub invariant-loop : goal.invariant-loop
invariant-loop l = record {
  idle : IsIdlePassOf l.board l.pass;
  spare : l.spare ≡ row_length (scene_of l.board);
  gathered : (parts_of l.pass).gathered ≡ (parts_of l.fn.pass).gathered;
}
