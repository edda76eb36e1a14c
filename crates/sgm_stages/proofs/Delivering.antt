-- What a run calls for, once its texts are made and named.
use Rattle.std.proofs.Common.{◌≡◌, ◌∙◌, inl, inr, sym, ap, subst, List, ℕ, Option, Result, Ok}
use Rattle.sgm_io.specs.Held.{Held}
use Rattle.sgm_io.specs.Unfinished.{NameSet}
use Rattle.sgm_outcome.specs.declared.outcome.Outcome.{Outcome}
use Rattle.sgm_outcome.specs.declared.outcome.Outcome.TheVariants.{Done, Usage, Refused, ReadFault}
use Rattle.sgm_outcome.specs.declared.outcome.Outcome.TheVariants.{WriteFault, NoMemory}
use Rattle.sgm_outcome.specs.declared.outcome.Refusal.{Refusal}
use Rattle.sgm_stages.specs.Outputs.{OutputFile}
use Rattle.sgm_stages.specs.Verdict.{Verdict, files, unless_refused, outputs_of}
use Rattle.sgm_stages.specs.Ends.{OutStands, OutUntouched, ShownBy, WritingStands}
use Rattle.sgm_stages.specs.Unfinished.{AreFinished}
use Rattle.sgm_stages.specs.Deliver.{EndsIn, FilesPut, IsDeliveryEnd, Stops}
use Rattle.sgm_stages.specs.Stops.{write_outcome}
use Rattle.sgm_stages.specs.declared.stops.WriteStop.{WriteStop}
use Rattle.sgm_stages.specs.declared.stops.WriteStop.TheVariants as write

-- a verdict that goes on with what was made
pub settled : {T : Type 0} (gone v : Verdict) (wanted : Result T Refusal) (next : T → Verdict) (made : T) → gone ≡ v → gone ≡ unless_refused wanted next → wanted ≡ Ok made → next made ≡ v
settled {T} gone v wanted next made is goes are = sym (ap (λ (w : Result T Refusal). unless_refused w next) are) ∙ sym goes ∙ is

-- the files and the summary that are written, as the verdict has them
pub delivered : (outputs named : List OutputFile) (summary text : List ℕ) (v : Verdict) → outputs ≡ named → summary ≡ text → files named text ≡ v → files outputs summary ≡ v
delivered outputs named summary text v are is wanted =
    ap (λ (o : List OutputFile). files o summary) are ∙ ap (λ (s : List ℕ). files named s) is ∙ wanted

-- what is held, over what was held before the inputs were fetched
pub put_along : (outcome : Outcome) (v w : Verdict) (old kept new : Held) → w ≡ v → kept ≡ old → FilesPut outcome w kept new → FilesPut outcome v old new
put_along outcome v w old kept new same stays put =
    let P : Verdict → Type 0 = λ x. FilesPut outcome x old new in
    let Q : Held → Type 0 = λ h. FilesPut outcome w h new in
    subst P same (subst Q stays put)

pub finished_along : (v w : Verdict) (names : NameSet) → w ≡ v → AreFinished (outputs_of w) names → AreFinished (outputs_of v) names
finished_along v w names same done = let P : Verdict → Type 0 = λ x. AreFinished (outputs_of x) names in subst P same done

pub out_along : (outcome : Outcome) (v w : Verdict) (old new : List ℕ) → w ≡ v → OutStands outcome w old new → OutStands outcome v old new
out_along outcome v w old new same out = let P : Verdict → Type 0 = λ x. OutStands outcome x old new in subst P same out

-- the outcomes of a delivery are shown by what is delivered
pub delivery_shown : (outputs : List OutputFile) (summary : List ℕ) (outcome : Outcome)
    → IsDeliveryEnd outcome → ShownBy (files outputs summary) outcome
delivery_shown outputs summary Done end = tt
delivery_shown outputs summary (Usage fault) end = absurd end
delivery_shown outputs summary (Refused refusal) end = absurd end
delivery_shown outputs summary (ReadFault input) end = absurd end
delivery_shown outputs summary (WriteFault output) end = tt
delivery_shown outputs summary NoMemory end = tt

-- where it is known what `out` has received, it has received nothing else
pub untouched_by : (outcome : Outcome) (v : Verdict) (old new : List ℕ)
    → OutStands outcome v old new → OutUntouched outcome old new
untouched_by Done v old new out = tt
untouched_by (Usage fault) v old new out = out
untouched_by (Refused refusal) v old new out = out
untouched_by (ReadFault input) v old new out = out
untouched_by (WriteFault output) v old new (inl same) = λ other. same
untouched_by (WriteFault output) v old new (inr is) = λ other. absurd (other is.0)
untouched_by NoMemory v old new out = out

-- ---- what stands where the writing stopped

pub stop_put : (named wanted : List OutputFile) (summary : List ℕ) (stop : WriteStop) (old new : Held) → named ≡ wanted → Stops named stop old new → FilesPut (write_outcome stop) (files wanted summary) old new
stop_put named wanted summary (write.Unwritten output) old new same ends = let P : List OutputFile → Type 0 = λ fs. EndsIn output fs old new in inl (subst P same ends)
stop_put named wanted summary write.NoMemory old new same ends = let P : List OutputFile → Type 0 = λ fs. EndsIn ends.0 fs old new in inr (ends.0, subst P same ends.1)

pub stop_out : (stop : WriteStop) (v : Verdict) (old new : List ℕ) → new ≡ old → OutStands (write_outcome stop) v old new
stop_out (write.Unwritten output) v old new same = inl same
stop_out write.NoMemory v old new same = same

pub stop_writing : (stop : WriteStop) (old new : Option (List ℕ)) → WritingStands (write_outcome stop) old new
stop_writing (write.Unwritten output) old new = tt
stop_writing write.NoMemory old new = tt

pub stop_not_done : (stop : WriteStop) → write_outcome stop ≡ Done → ⊥
stop_not_done (write.Unwritten output) is = absurd (cc)
stop_not_done write.NoMemory is = absurd (cc)
