use Rattle.sgm_series.specs.Lines.{series_line}
use Rattle.sgm_series.proofs.Standing.{last_left, last_written}
use Rattle.sgm_series.proofs.series.tell.Goals as goal

pub returns-else-whole-clause-line : goal.returns-else-whole-clause-line
returns-else-whole-clause-line g c = λ told. last_left c.args.whole (series_line c.args.outcome.now) _ _ c.if-whole.false

pub returns-in-Ok-clause-line : goal.returns-in-Ok-clause-line
returns-in-Ok-clause-line g c = λ told. last_written c.args.whole (series_line c.args.outcome.now) c.write_series_outcome.result _ _ _ _ c.if-whole.true (c.write_series_outcome.ensures.written told) c.write_series_outcome.ensures.faults

pub returns-in-Err-clause-line : goal.returns-in-Err-clause-line
returns-in-Err-clause-line g c = λ told. last_written c.args.whole (series_line c.args.outcome.now) c.write_series_outcome.result _ _ _ _ c.if-whole.true (c.write_series_outcome.ensures.written told) c.write_series_outcome.ensures.faults
