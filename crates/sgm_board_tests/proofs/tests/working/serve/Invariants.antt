use Rattle.std.proofs.Common.{◌≡◌}
use Rattle.sgm_board.specs.Boards.{parts_of, HoldsOnly}
use Rattle.sgm_board_tests.proofs.tests.working.serve.Given as goal

abbrev pub invariant-loop-number : goal.invariant-loop-number
invariant-loop-number l = record {
  holds : HoldsOnly l.board l.pass l.parcel;
  spare : l.spare ≡ l.fn.spare;
  gathered : (parts_of l.pass).gathered ≡ (parts_of l.fn.pass).gathered;
}
