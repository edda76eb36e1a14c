use Rattle.std.proofs.Common.{◌≡◌}
use Rattle.sgm_board.specs.Plans.{about_of}
use Rattle.sgm_board.specs.Pockets.{HasRead}
use Rattle.sgm_board.proofs.steps.read_all.Given as goal

abbrev pub invariant-loop-word : goal.invariant-loop-word
invariant-loop-word l = record {
  table : l.seat.table_id ≡ l.initial.seat.table_id;
  slots : l.seat.me.1 ≡ l.initial.seat.me.1;
  view : HasRead (about_of l.fn.shown.key).cut.strips l.word l.initial.seat.me.0 l.seat.me.0;
}
