-- A run that ends before it writes: what is held and what `out` has received are as before, and it isn't done.
use Rattle.std.proofs.Common.{◌≡◌, inl, ℕ, List, Option}
use Rattle.sgm_io.specs.Held.{Held}
use Rattle.sgm_outcome.specs.declared.outcome.Outcome.{Outcome}
use Rattle.sgm_outcome.specs.declared.outcome.Outcome.TheVariants.{Done, Usage, Refused, ReadFault, WriteFault, NoMemory}
use Rattle.sgm_stages.specs.Deliver.{FilesPut}
use Rattle.sgm_stages.specs.Ends.{OutStands, OutUntouched, WritingStands}
use Rattle.sgm_stages.specs.Entries.{IsEarly}
use Rattle.sgm_stages.specs.Stops.{fetch_outcome, texts_outcome}
use Rattle.sgm_stages.specs.Verdict.{Verdict}
use Rattle.sgm_stages.specs.declared.stops.FetchStop.{FetchStop}
use Rattle.sgm_stages.specs.declared.stops.FetchStop.TheVariants as fetch
use Rattle.sgm_stages.specs.declared.stops.TextsError.{TextsError}
use Rattle.sgm_stages.specs.declared.stops.TextsError.TheVariants as texts

pub fetch_early : (stop : FetchStop) → IsEarly (fetch_outcome stop)
fetch_early (fetch.Unread input) = tt
fetch_early (fetch.TooLong input) = tt
fetch_early fetch.NoMemory = tt

pub texts_early : (stop : TextsError) → IsEarly (texts_outcome stop)
texts_early (texts.Refused refusal) = tt
texts_early texts.NoMemory = tt

pub early_put : (outcome : Outcome) (v : Verdict) (old new : Held) → IsEarly outcome → new ≡ old → FilesPut outcome v old new
early_put Done v old new early same = absurd early
early_put (Usage fault) v old new early same = absurd early
early_put (Refused refusal) v old new early same = same
early_put (ReadFault i) v old new early same = same
early_put (WriteFault output) v old new early same = absurd early
early_put NoMemory v old new early same = inl same

pub early_out : (outcome : Outcome) (v : Verdict) (old new : List ℕ) → IsEarly outcome → new ≡ old → OutStands outcome v old new
early_out Done v old new early same = absurd early
early_out (Usage fault) v old new early same = absurd early
early_out (Refused refusal) v old new early same = same
early_out (ReadFault i) v old new early same = same
early_out (WriteFault output) v old new early same = absurd early
early_out NoMemory v old new early same = same

pub early_untouched : (outcome : Outcome) (old new : List ℕ) → IsEarly outcome → new ≡ old → OutUntouched outcome old new
early_untouched Done old new early same = absurd early
early_untouched (Usage fault) old new early same = absurd early
early_untouched (Refused refusal) old new early same = same
early_untouched (ReadFault i) old new early same = same
early_untouched (WriteFault output) old new early same = absurd early
early_untouched NoMemory old new early same = same

pub early_writing : (outcome : Outcome) (old new : Option (List ℕ)) → IsEarly outcome → new ≡ old → WritingStands outcome old new
early_writing Done old new early same = absurd early
early_writing (Usage fault) old new early same = absurd early
early_writing (Refused refusal) old new early same = same
early_writing (ReadFault i) old new early same = same
early_writing (WriteFault output) old new early same = absurd early
early_writing NoMemory old new early same = tt

pub early_not_done : (outcome : Outcome) → IsEarly outcome → outcome ≡ Done → ⊥
early_not_done Done early is = early
early_not_done (Usage fault) early is = early
early_not_done (Refused refusal) early is = absurd (cc)
early_not_done (ReadFault i) early is = absurd (cc)
early_not_done (WriteFault output) early is = early
early_not_done NoMemory early is = absurd (cc)
