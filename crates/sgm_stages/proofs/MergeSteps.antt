-- A merge, from its plan to its verdict.
use Rattle.std.proofs.Common.{◌≡◌, ◌∙◌, refl, sym, ap, subst, arith, ℕ, List, [], Bool, Option, Some, Result, Ok, unwrap_or, option_map, slice_get, IsTrue, true, false}
use Rattle.sgm_io.specs.Held.{Held}
use Rattle.sgm_list.specs.Names.{names_in, names_reading}
use Rattle.sgm_calib.specs.Calibration.{Calibration}
use Rattle.sgm_calib.specs.declared.keys.CalibFault.{CalibFault}
use Rattle.sgm_words.specs.Operands.{MergeOperands, IsEntryName, is_plain_word}
use Rattle.sgm_outcome.specs.declared.outcome.Outcome.{Outcome}
use Rattle.sgm_outcome.specs.declared.outcome.Refusal.{Refusal}
use Rattle.sgm_stages.specs.Calls.{MergeCallsFor}
use Rattle.sgm_stages.specs.Ends.{NoneBefore, ShownBy, names_listed, told_by}
use Rattle.sgm_stages.specs.Gather.{MergeAtHand}
use Rattle.sgm_stages.specs.Inputs.{MergeBytes}
use Rattle.sgm_stages.specs.Judge.{CalibReads, StopsFor}
use Rattle.sgm_stages.specs.Merging.{MergePlan, MergedTexts, plan_for}
use Rattle.sgm_stages.specs.Outputs.{merge_files_of}
use Rattle.sgm_stages.specs.Stops.{texts_outcome}
use Rattle.sgm_stages.specs.Verdict.{Verdict, files, merge_fetched, entries_fetched, merged_by, plan_carried_out, plan_of, calib_named}
use Rattle.sgm_stages.specs.declared.stops.TextsError.{TextsError}
use Rattle.sgm_stages.proofs.Reading.{calib_reads_by}
use Rattle.sgm_stages.proofs.Steps.{shown_along, stop_shown}
use Rattle.sgm_stages.proofs.VerdictLaws.{none_merged}

-- the list and the calibration were fetched: whatever comes next is the verdict
abbrev pub MergeGoesOn : MergeOperands → Held → Type 0
MergeGoesOn asked held = (next : Verdict) → NoneBefore 4 next → merge_fetched asked held next ≡ next

-- the plan that the bytes at hand ask for is that of the operands
pub plan_same : (asked : MergeOperands) (held : Held) (calib : Result Calibration CalibFault) (list items out : List ℕ) → held asked.list ≡ Some items → list ≡ items → out ≡ asked.out
    → plan_of asked held calib ≡ plan_for (names_reading out list) (calib_named asked.calib calib)
plan_same asked held calib list items out there same is =
    ap (λ (h : Option (List ℕ)). plan_for (names_reading asked.out (unwrap_or h [])) (calib_named asked.calib calib)) there
    ∙ ap (λ (l : List ℕ). plan_for (names_reading asked.out l) (calib_named asked.calib calib)) (sym same)
    ∙ ap (λ (o : List ℕ). plan_for (names_reading o list) (calib_named asked.calib calib)) (sym is)

-- the calibration at hand reads as what is held
pub calib_at : (asked : MergeOperands) (held : Held) (v : Verdict) (inputs : MergeBytes) (bytes : Option (List ℕ)) (calls : MergeCallsFor asked held v) → MergeAtHand asked held inputs → bytes ≡ inputs.calib
    → CalibReads bytes (calib_named asked.calib calls.calib)
calib_at asked held v inputs bytes calls at same =
    let P : Option (List ℕ) → Type 0 = λ b. CalibReads b (calib_named asked.calib calls.calib) in
    subst P (sym same) (calib_reads_by (is_plain_word asked.calib) (held asked.calib) inputs.calib calls.calib at.calib calls.is_reading)

-- the verdict is what the plan calls for
pub to_plan : (asked : MergeOperands) (held : Held) (v : Verdict) (calls : MergeCallsFor asked held v) → MergeGoesOn asked held → v ≡ plan_carried_out asked.out held (plan_of asked held calls.calib)
to_plan asked held v calls on = sym calls.is ∙ on _ (none_merged 4 (omega arith) asked.out held _ _)

pub to_entries : (asked : MergeOperands) (held : Held) (v : Verdict) (calls : MergeCallsFor asked held v) (plan : MergePlan) → MergeGoesOn asked held → plan_of asked held calls.calib ≡ Ok plan
    → v ≡ entries_fetched plan.spec 0 plan.names held (merged_by asked.out plan)
to_entries asked held v calls plan on is =
    to_plan asked held v calls on
    ∙ ap (λ (w : Result MergePlan Refusal). plan_carried_out asked.out held w) is

-- the verdict is the files of the texts that were made of the entries, over what was held before
pub to_made : (asked : MergeOperands) (held now : Held) (v : Verdict) (calls : MergeCallsFor asked held v) (plan : MergePlan) (made : MergedTexts) → MergeGoesOn asked held → plan_of asked held calls.calib ≡ Ok plan → now ≡ held
    → entries_fetched plan.spec 0 plan.names now (merged_by asked.out plan) ≡ files (merge_files_of asked.out made) made.summary → files (merge_files_of asked.out made) made.summary ≡ v
to_made asked held now v calls plan made on is stays makes =
    let P : Held → Type 0 = λ h. entries_fetched plan.spec 0 plan.names h (merged_by asked.out plan) ≡ files (merge_files_of asked.out made) made.summary in
    sym (to_entries asked held v calls plan on is ∙ subst P stays makes)

-- an outcome that what the entries call for shows is shown by the verdict
pub to_shown : (asked : MergeOperands) (held now : Held) (v : Verdict) (calls : MergeCallsFor asked held v) (plan : MergePlan) (outcome : Outcome) → MergeGoesOn asked held → plan_of asked held calls.calib ≡ Ok plan → now ≡ held
    → ShownBy (entries_fetched plan.spec 0 plan.names now (merged_by asked.out plan)) outcome → ShownBy v outcome
to_shown asked held now v calls plan outcome on is stays shown =
    let P : Held → Type 0 = λ h. ShownBy (entries_fetched plan.spec 0 plan.names h (merged_by asked.out plan)) outcome in
    shown_along v _ _ (to_entries asked held v calls plan on is) (subst P stays shown)

-- a plan that there isn't is shown by the verdict
pub plan_shown : (asked : MergeOperands) (held : Held) (v : Verdict) (calls : MergeCallsFor asked held v) (error : TextsError) → MergeGoesOn asked held → StopsFor (plan_of asked held calls.calib) error → ShownBy v (texts_outcome error)
plan_shown asked held v calls error on stops =
    shown_along v _ _ (to_plan asked held v calls on)
    (stop_shown (plan_of asked held calls.calib) (λ plan. entries_fetched plan.spec 0 plan.names held (merged_by asked.out plan)) error stops)

-- ---- the names of the entries

-- the names that were read are those that the list asks for, where it is told
pub names_known : (asked : MergeOperands) (tells : Bool) (held : Held) (names : List (List ℕ)) (list items : List ℕ) → names ≡ names_in list → (IsTrue tells → (held asked.list ≡ Some items) × (list ≡ items))
    → (k : ℕ) (name : List ℕ) → slice_get names k ≡ Some name → IsEntryName (option_map (names_listed asked) (told_by tells held)) k name
names_known asked false held names list items is at k name there = tt
names_known asked true held names list items is at k name there =
    let have = at refl in
    let same : names ≡ names_listed asked held = is ∙ ap names_in have.1 ∙ sym (ap (λ (h : Option (List ℕ)). names_in (unwrap_or h [])) have.0) in
    sym (ap (λ (ns : List (List ℕ)). slice_get ns k) same) ∙ there
