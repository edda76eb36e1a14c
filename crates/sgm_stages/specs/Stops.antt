-- The outcome that a stop of a stage ends the run with.
use Rattle.sgm_outcome.specs.declared.outcome.Refusal.TheVariants.{TooLong}
use Rattle.sgm_outcome.specs.declared.outcome.Outcome.{Outcome}
use Rattle.sgm_outcome.specs.declared.outcome.Outcome.TheVariants as outcome
use Rattle.sgm_stages.specs.declared.stops.FetchStop.{FetchStop}
use Rattle.sgm_stages.specs.declared.stops.FetchStop.TheVariants as fetch
use Rattle.sgm_stages.specs.declared.stops.TextsError.{TextsError}
use Rattle.sgm_stages.specs.declared.stops.TextsError.TheVariants as texts
use Rattle.sgm_stages.specs.declared.stops.WriteStop.{WriteStop}
use Rattle.sgm_stages.specs.declared.stops.WriteStop.TheVariants as write

abbrev pub fetch_outcome : FetchStop → Outcome
fetch_outcome (fetch.Unread input) = outcome.ReadFault input
fetch_outcome (fetch.TooLong input) = outcome.Refused (TooLong input)
fetch_outcome fetch.NoMemory = outcome.NoMemory

abbrev pub texts_outcome : TextsError → Outcome
texts_outcome (texts.Refused refusal) = outcome.Refused refusal
texts_outcome texts.NoMemory = outcome.NoMemory

abbrev pub write_outcome : WriteStop → Outcome
write_outcome (write.Unwritten output) = outcome.WriteFault output
write_outcome write.NoMemory = outcome.NoMemory
