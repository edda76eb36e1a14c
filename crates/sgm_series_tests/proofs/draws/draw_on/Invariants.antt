use Rattle.std.proofs.Common.{◌<◌}
use Rattle.sgm_draws.specs.Tickets.{IsTicketOf, count_of, parts_of}
use Rattle.sgm_series_tests.proofs.draws.draw_on.Given as goal

abbrev pub invariant-loop-draw : goal.invariant-loop-draw
invariant-loop-draw l = record {
  own : IsTicketOf l.draws l.ticket;
  below : (parts_of l.ticket).seen < count_of l.draws;
}
