use Rattle.std.proofs.Common.{◌-◌, length}
use Rattle.sgm_series.specs.Moments.{series_at}
use Rattle.sgm_series.proofs.ManyBatches.{BatchesGo}
use Rattle.sgm_series.proofs.series.match_entries.Given as goal

abbrev pub invariant-loop-first : goal.invariant-loop-first
invariant-loop-first g l = record {
  so : BatchesGo l.first l.listed.entries.now
      (series_at g.S.Shelf g.O.Sink g.E.Sink l.fn.shelf l.fn.out l.fn.err l.fn.tally)
      (series_at g.S.Shelf g.O.Sink g.E.Sink l.shelf l.out l.err l.tally);
}

abbrev pub decreases-loop-first : goal.decreases-loop-first
decreases-loop-first g l = length l.listed.entries.now - l.first
