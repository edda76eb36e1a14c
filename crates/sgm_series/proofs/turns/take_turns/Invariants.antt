use Rattle.std.proofs.Common.{length}
use Rattle.sgm_series.specs.Moments.{series_at}
use Rattle.sgm_series.proofs.ManyTurns.{TurnsGo}
use Rattle.sgm_series.proofs.turns.take_turns.Given as goal

abbrev pub invariant-loop-place : goal.invariant-loop-place
invariant-loop-place g l = record {
  next : (goal.iterator-loop-place g).can_next l.place-iterator;
  finite : (goal.iterator-loop-place g).is_finite l.place-iterator;
  so : TurnsGo (length l.yielded) l.fn.answered.entries.now l.fn.answered.answers.items
      (series_at g.S.Shelf g.O.Sink g.E.Sink l.fn.shelf l.fn.out l.fn.err l.fn.tally)
      (series_at g.S.Shelf g.O.Sink g.E.Sink l.shelf l.out l.err l.tally);
}
