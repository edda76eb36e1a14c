use Rattle.std.proofs.Common.{All}
use Rattle.sgm_board.specs.Boards.{parts_of}
use Rattle.sgm_work.specs.Crews.{CanWork, GathersFrom, pass_of}
use Rattle.sgm_work.proofs.matching.gather.Given as goal

-- the passes so far, and the one at hand, are gathered
abbrev pub invariant-loop-other : goal.invariant-loop-other
invariant-loop-other l = record {
  can_work : CanWork l.board l.whole;
  first : GathersFrom (parts_of l.initial.whole.pass) (parts_of l.whole.pass);
  others : All (λ worker. GathersFrom (parts_of (pass_of worker)) (parts_of l.whole.pass)) l.yielded;
}
