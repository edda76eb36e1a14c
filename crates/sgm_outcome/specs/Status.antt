-- The number that an outcome ends the program with.
use Rattle.std.specs.Prelude.{ℕ}
use Rattle.sgm_outcome.specs.declared.outcome.Outcome.{Outcome}
use Rattle.sgm_outcome.specs.declared.outcome.Outcome.TheVariants.{Done, Usage, Refused, ReadFault}
use Rattle.sgm_outcome.specs.declared.outcome.Outcome.TheVariants.{WriteFault, NoMemory}

abbrev pub status_of : Outcome → ℕ
status_of Done = 0
status_of (Usage fault) = 2
status_of (Refused refusal) = 3
status_of (ReadFault input) = 4
status_of (WriteFault output) = 5
status_of NoMemory = 6
