-- A run that writes no file leaves all files as they were.
use Rattle.std.proofs.Common.{◌≡◌, inl, inr, [], refl}
use Rattle.sgm_io.specs.Held.{Held}
use Rattle.sgm_words.specs.declared.files.Output.TheVariants.{Summary}
use Rattle.sgm_outcome.specs.declared.outcome.Outcome.{Outcome}
use Rattle.sgm_outcome.specs.declared.outcome.Outcome.TheVariants.{Done, Usage, Refused, ReadFault, WriteFault, NoMemory}
use Rattle.sgm_stages.specs.Verdict.{Verdict, outputs_of}
use Rattle.sgm_stages.specs.Deliver.{FilesPut}

-- a fault of writing is one of the summary
abbrev pub SummaryAlone : Outcome → Type 0
SummaryAlone (WriteFault output) = output ≡ Summary
SummaryAlone Done = Unit {0}
SummaryAlone (Usage fault) = Unit {0}
SummaryAlone (Refused refusal) = Unit {0}
SummaryAlone (ReadFault i) = Unit {0}
SummaryAlone NoMemory = Unit {0}

-- a run that touches no file, and is to write none, leaves them as they should stand
pub none_put : (v : Verdict) (outcome : Outcome) (old : Held) → outputs_of v ≡ [] → SummaryAlone outcome → FilesPut outcome v old old
none_put v Done old none only = rw none refl
none_put v (Usage fault) old none only = refl
none_put v (Refused refusal) old none only = refl
none_put v (ReadFault i) old none only = refl
none_put v (WriteFault output) old none only = inr (only, rw none refl)
none_put v NoMemory old none only = inl refl
