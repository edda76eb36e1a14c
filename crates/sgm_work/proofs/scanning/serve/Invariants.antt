use Rattle.std.proofs.Common.{◌≡◌, ◌≤◌}
use Rattle.sgm_board.specs.Boards.{parts_of, HoldsOnly}
use Rattle.sgm_work.specs.Tries.{HasTriedFirst}
use Rattle.sgm_work.proofs.scanning.serve.Given as goal

-- the directions of the fronts before this one were tried
abbrev pub invariant-loop-front : goal.invariant-loop-front
invariant-loop-front g l = record {
  holds : HoldsOnly l.board l.pass l.parcel;
  same : l.parcel.strip ≡ l.fn.parcel.strip;
  number : (parts_of l.pass).number ≡ (parts_of l.fn.pass).number;
  spare : l.spare ≡ l.fn.spare;
  few : l.handed ≤ l.front;
  tried : HasTriedFirst l.fn.parcel.strip l.front l.handed (parts_of l.fn.pass) (parts_of l.pass);
}
