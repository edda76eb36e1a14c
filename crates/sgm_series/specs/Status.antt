-- The number that a series ends the program with.
use Rattle.std.specs.Prelude.{ℕ}
use Rattle.sgm_series.specs.declared.outcome.SeriesOutcome.{SeriesOutcome}
use Rattle.sgm_series.specs.declared.outcome.SeriesOutcome.TheVariants.{Done, Usage, RefusedList}
use Rattle.sgm_series.specs.declared.outcome.SeriesOutcome.TheVariants.{SomeRefused, ListUnread}
use Rattle.sgm_series.specs.declared.outcome.SeriesOutcome.TheVariants.{ReadFault, WriteFault}
use Rattle.sgm_series.specs.declared.outcome.SeriesOutcome.TheVariants.{NoMemory}

abbrev pub status_of : SeriesOutcome → ℕ
status_of Done = 0
status_of (Usage fault) = 2
status_of (RefusedList fault) = 3
status_of (SomeRefused entries) = 3
status_of ListUnread = 4
status_of (ReadFault entry input) = 4
status_of (WriteFault entry output) = 5
status_of NoMemory = 6
