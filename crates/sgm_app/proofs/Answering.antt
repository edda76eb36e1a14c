-- From what was fetched and made to the verdict that a match calls for. Crates above cite these lemmas.
use Rattle.std.specs.Bool.{⊤}
use Rattle.std.proofs.Common.{arith, ◌≡◌, ◌⊎◌, inl, inr, ◌∙◌, sym, refl, ap, subst, ℕ, List, Option, Result, Ok, Err, MatchResult}
use Rattle.sgm_base.specs.Picture.{Picture}
use Rattle.sgm_io.specs.Held.{Held}
use Rattle.sgm_pgm.specs.Read.{Reads}
use Rattle.sgm_pgm.specs.declared.fault.PgmFault.{PgmFault}
use Rattle.sgm_base.specs.Refining.{Refining}
use Rattle.sgm_calib.specs.Calibration.{Calibration}
use Rattle.sgm_calib.specs.declared.keys.CalibFault.{CalibFault}
use Rattle.sgm_words.specs.Operands.{Operands}
use Rattle.sgm_outcome.specs.declared.outcome.Outcome.{Outcome}
use Rattle.sgm_outcome.specs.declared.outcome.Refusal.{Refusal}
use Rattle.sgm_app.specs.Calls.{MatchCallsFor}
use Rattle.sgm_stages.specs.Ends.{ShownBy, NoneBefore}
use Rattle.sgm_stages.specs.Gather.{AtHand}
use Rattle.sgm_stages.specs.Inputs.{InputBytes}
use Rattle.sgm_stages.specs.Judge.{CalibReads, StopsFor}
use Rattle.sgm_stages.specs.Made.{texts_in}
use Rattle.sgm_stages.specs.Stops.{texts_outcome}
use Rattle.sgm_stages.specs.Outputs.{files_of}
use Rattle.sgm_stages.specs.Texts.{Texts}
use Rattle.sgm_stages.specs.Verdict.{Verdict, files, refused, calib_of, pair_fetched, unless_refused}
use Rattle.sgm_app.specs.Verdict.{texts_for}
use Rattle.sgm_stages.specs.declared.made.MadeTexts.{MadeTexts}
use Rattle.sgm_stages.specs.declared.stops.TextsError.{TextsError}
use Rattle.sgm_stages.specs.declared.stops.TextsError.TheVariants.{Refused, NoMemory}
use Rattle.sgm_stages.proofs.Reading.{image_reads, calib_reads}
use Rattle.sgm_stages.proofs.Steps.{shown_along}
use Rattle.sgm_app.proofs.VerdictLaws.{none_matched}

-- the inputs were fetched: whatever comes next is the verdict
abbrev pub GoesOn : Operands → Held → Type 0
GoesOn asked held = (next : Verdict) → NoneBefore 4 next → pair_fetched asked held next ≡ next

-- the texts are those that the bytes call for, or there are none, as `texts` promises
abbrev pub IsMade : Refining → InputBytes → Result MadeTexts TextsError → Type 0
IsMade refine inputs made = (left right : Result Picture PgmFault) (calib : Result Calibration CalibFault)
    → Reads inputs.left left → Reads inputs.right right → CalibReads inputs.calib calib
    → MatchResult made (λ t. texts_for left right calib refine ≡ Ok (texts_in t)) (StopsFor (texts_for left right calib refine))

-- what was made of bytes that are those of the inputs was made of the inputs
pub made_of : (refine : Refining) (inputs : InputBytes) (left right : List ℕ) (calib : Option (List ℕ))
    (made : Result MadeTexts TextsError) →
    left ≡ inputs.left → right ≡ inputs.right → calib ≡ inputs.calib →
    IsMade refine (record { left = left; right = right; calib = calib }) made → IsMade refine inputs made
made_of refine inputs left right calib made same_left same_right same_calib is = λ l r c reads_left reads_right reads_calib.
    let L : List ℕ → Type 0 = λ b. Reads b l in let R : List ℕ → Type 0 = λ b. Reads b r in
    let C : Option (List ℕ) → Type 0 = λ b. CalibReads b c in
    is l r c (subst L (sym same_left) reads_left) (subst R (sym same_right) reads_right) (subst C (sym same_calib) reads_calib)

-- the verdict is the files of the texts, or the refusal
abbrev pub VerdictIs : Operands → Verdict → Result MadeTexts TextsError → Type 0
VerdictIs asked v (Ok t) = v ≡ files (files_of asked.out (texts_in t)) (texts_in t).summary
VerdictIs asked v (Err (Refused refusal)) = v ≡ refused refusal
VerdictIs asked v (Err NoMemory) = ⊤

by_texts : (asked : Operands) (v : Verdict) (wanted : Result Texts Refusal) (made : Result MadeTexts TextsError) →
    unless_refused wanted (λ t. files (files_of asked.out t) t.summary) ≡ v →
    MatchResult made (λ t. wanted ≡ Ok (texts_in t)) (StopsFor wanted) → VerdictIs asked v made
by_texts asked v wanted (Ok t) is made =
    sym is ∙ ap (λ (w : Result Texts Refusal). unless_refused w (λ t. files (files_of asked.out t) t.summary)) made
by_texts asked v wanted (Err (Refused refusal)) is made =
    sym is ∙ ap (λ (w : Result Texts Refusal). unless_refused w (λ t. files (files_of asked.out t) t.summary)) made
by_texts asked v wanted (Err NoMemory) is made = tt

-- what was made of the inputs at hand is the verdict
pub made_is : (asked : Operands) (refine : Refining) (held : Held) (v : Verdict) (inputs : InputBytes)
    (made : Result MadeTexts TextsError) →
    MatchCallsFor asked refine held v → GoesOn asked held → AtHand asked held inputs → IsMade refine inputs made → VerdictIs asked v made
made_is asked refine held v inputs made calls on at is_made =
    let r = calls.readings in let are = calls.are_readings in
    let wanted = texts_for r.left r.right (calib_of asked r) refine in
    by_texts asked v wanted made (sym (on _ (none_matched 4 (omega arith) asked.out refine r.left r.right (calib_of asked r))) ∙ calls.is)
    (is_made r.left r.right (calib_of asked r)
    (image_reads _ _ _ r.left at.left refl are.left) (image_reads _ _ _ r.right at.right refl are.right)
    (calib_reads asked held r inputs inputs.calib at are refl))

-- why there are no texts is shown by the verdict
pub refusal_shown : (asked : Operands) (v : Verdict) (error : TextsError) → VerdictIs asked v (Err error) → ShownBy v (texts_outcome error)
refusal_shown asked v (Refused refusal) is = is
refusal_shown asked v NoMemory is = tt

-- a stop of the fetch is shown by the verdict
pub fetch_shown : (asked : Operands) (refine : Refining) (held : Held) (v : Verdict) (outcome : Outcome) →
    MatchCallsFor asked refine held v →
    ((next : Verdict) → NoneBefore 4 next → ShownBy (pair_fetched asked held next) outcome) → ShownBy v outcome
fetch_shown asked refine held v outcome calls stops =
    let r = calls.readings in
    shown_along v _ _ (sym calls.is) (stops _ (none_matched 4 (omega arith) asked.out refine r.left r.right (calib_of asked r)))

is_either : (asked : Operands) (v : Verdict) (wanted : Result Texts Refusal) →
    unless_refused wanted (λ t. files (files_of asked.out t) t.summary) ≡ v →
    ((t : Texts) × (v ≡ files (files_of asked.out t) t.summary)) ⊎ ((refusal : Refusal) × (v ≡ refused refusal))
is_either asked v (Ok t) is = inl (t, sym is)
is_either asked v (Err refusal) is = inr (refusal, sym is)

-- inputs that were fetched are judged: files are called for, or the inputs are refused
pub judged : (asked : Operands) (refine : Refining) (held : Held) (v : Verdict) → MatchCallsFor asked refine held v → GoesOn asked held →
    ((t : Texts) × (v ≡ files (files_of asked.out t) t.summary)) ⊎ ((refusal : Refusal) × (v ≡ refused refusal))
judged asked refine held v calls on =
    let r = calls.readings in
    is_either asked v (texts_for r.left r.right (calib_of asked r) refine)
    (sym (on _ (none_matched 4 (omega arith) asked.out refine r.left r.right (calib_of asked r))) ∙ calls.is)
