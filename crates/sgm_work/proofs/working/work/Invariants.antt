use Rattle.std.proofs.Common.{◌≡◌}
use Rattle.sgm_board.specs.Boards.{parts_of, strips_of, IsIdlePassOf}
use Rattle.sgm_work.specs.Worked.{IsSamePass, LooksMore, TriesWhatItClaims}
use Rattle.sgm_work.proofs.working.work.Given as goal

-- after so many rounds
abbrev pub invariant-loop-round : goal.invariant-loop-round
invariant-loop-round g l = record {
  idle : IsIdlePassOf l.board l.pass;
  spare : l.spare ≡ l.fn.spare;
  same : IsSamePass (parts_of l.fn.pass) (parts_of l.pass);
  tried : TriesWhatItClaims (parts_of l.fn.pass) (parts_of l.pass);
  looked : LooksMore l._round (strips_of l.board) (parts_of l.fn.pass) (parts_of l.pass);
}
