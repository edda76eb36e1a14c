-- An entry as it is fetched.
use Rattle.std.proofs.Common.{◌≡◌, ℕ, inl, inr, refl, sym, subst, Result, Ok, Err}
use Rattle.sgm_io.specs.Held.{Held}
use Rattle.sgm_base.specs.Refining.{plain}
use Rattle.sgm_words.specs.Operands.{Operands, FileNames}
use Rattle.sgm_words.specs.declared.files.Input.{Input}
use Rattle.sgm_list.specs.Entries.{EntryNames}
use Rattle.sgm_outcome.specs.declared.outcome.Refusal.{Refusal}
use Rattle.sgm_outcome.specs.declared.outcome.Refusal.TheVariants.{TooLong}
use Rattle.sgm_stages.specs.Ends.{ShownBy, NoneBefore, Faults, CountsShow}
use Rattle.sgm_stages.specs.Gather.{AtHand, HavePair, StopCounts}
use Rattle.sgm_stages.specs.Inputs.{InputBytes}
use Rattle.sgm_stages.specs.Stops.{fetch_outcome}
use Rattle.sgm_stages.specs.Verdict.{Verdict, pair_fetched}
use Rattle.sgm_stages.specs.declared.made.MadeTexts.{MadeTexts}
use Rattle.sgm_stages.specs.declared.stops.FetchStop.{FetchStop}
use Rattle.sgm_stages.specs.declared.stops.FetchStop.TheVariants as fetch
use Rattle.sgm_stages.specs.declared.stops.TextsError.{TextsError}
use Rattle.sgm_stages.specs.declared.stops.TextsError.TheVariants.{Refused, NoMemory}
use Rattle.sgm_app.proofs.Answering.{GoesOn, VerdictIs, made_is, fetch_shown, judged}
use Rattle.sgm_series.specs.Plans.{asked_for, names_for, EntryCallsFor, IsJudged}
use Rattle.sgm_series.specs.Answers.{Answers, IsAnswerOf}
use Rattle.sgm_series.specs.Batches.{AreInputsOf, IsReadable, PlaceCounts, PlaceShown}
use Rattle.sgm_series.specs.Stands.{refused_at}
use Rattle.sgm_series.specs.declared.making.BatchStop.{BatchStop}
use Rattle.sgm_series.specs.declared.making.BatchStop.TheVariants as batch

is_answer : (entry : EntryNames) (v : Verdict) (made : Result MadeTexts TextsError) → VerdictIs (asked_for entry) v made → Answers entry.out v made
is_answer entry v (Ok texts) is = is
is_answer entry v (Err (Refused refusal)) is = is
is_answer entry v (Err NoMemory) is = tt

-- inputs that were fetched
pub inputs_of : (entry : EntryNames) (asked : Operands) (held : Held) (inputs : InputBytes) → asked ≡ asked_for entry → GoesOn asked held → AtHand asked held inputs → AreInputsOf entry held inputs
inputs_of entry asked held inputs is on at = λ made is_made v calls.
    let P : Operands → Type 0 = λ a. GoesOn a held in
    let Q : Operands → Type 0 = λ a. AtHand a held inputs in
    is_answer entry v made (made_is (asked_for entry) plain held v inputs made calls (subst P is on) (subst Q is at) is_made)

pub readable : (entry : EntryNames) (asked : Operands) (held : Held) → asked ≡ asked_for entry → GoesOn asked held → IsReadable entry held
readable entry asked held is on = λ v calls.
    let P : Operands → Type 0 = λ a. GoesOn a held in
    let Q : Verdict → Type 0 = λ w. IsJudged w in
    elim (judged (asked_for entry) plain held v calls (subst P is on)) [
      | inl files ↦ subst Q (sym files.1) tt
      | inr refusal ↦ subst Q (sym refusal.1) tt
    ]

-- a stop, as the verdict shows it, however it would go on
abbrev pub StopsSo : Operands → Held → FetchStop → Type 0
StopsSo asked held stop = (next : Verdict) → NoneBefore 4 next → ShownBy (pair_fetched asked held next) (fetch_outcome stop)

pub stop_shown : (entry : EntryNames) (asked : Operands) (held : Held) (stop is_stop : FetchStop) (v : Verdict) → asked ≡ asked_for entry → stop ≡ is_stop → StopsSo asked held stop → EntryCallsFor entry held v → ShownBy v (fetch_outcome is_stop)
stop_shown entry asked held stop is_stop v is same stops calls =
    let P : Operands → Type 0 = λ a. StopsSo a held is_stop in
    let Q : FetchStop → Type 0 = λ s. StopsSo asked held s in
    fetch_shown (asked_for entry) plain held v (fetch_outcome is_stop) calls (subst P is (subst Q same stops))

pub too_long : (entry : EntryNames) (asked : Operands) (held : Held) (stop : FetchStop) (input : Input) → asked ≡ asked_for entry → stop ≡ fetch.TooLong input → StopsSo asked held stop → IsAnswerOf entry held (Err (Refused (TooLong input)))
too_long entry asked held stop input is same stops = λ v calls. stop_shown entry asked held stop (fetch.TooLong input) v is same stops calls

pub too_long_readable : (entry : EntryNames) (asked : Operands) (held : Held) (stop : FetchStop) (input : Input) → asked ≡ asked_for entry → stop ≡ fetch.TooLong input → StopsSo asked held stop → IsReadable entry held
too_long_readable entry asked held stop input is same stops = λ v calls.
    let Q : Verdict → Type 0 = λ w. IsJudged w in
    subst Q (sym (stop_shown entry asked held stop (fetch.TooLong input) v is same stops calls)) tt

-- the entry's operands name its inputs
pub have_names : (entry : EntryNames) (asked : Operands) → asked ≡ asked_for entry → HavePair asked (names_for entry)
have_names entry asked is =
    let P : Operands → Type 0 = λ a. HavePair a (names_for entry) in
    subst P (sym is) (λ input name named. named)

-- the counts show the stop of the entry's fetch
pub stop_counts : (entry : EntryNames) (asked : Operands) (stop is_stop : FetchStop) (before now : Faults) → asked ≡ asked_for entry → stop ≡ is_stop →
    ((names : FileNames) → HavePair asked names → StopCounts names stop before now) → CountsShow (names_for entry) (fetch_outcome is_stop) before now
stop_counts entry asked stop is_stop before now is same counts =
    let P : FetchStop → Type 0 = λ s. StopCounts (names_for entry) s before now in
    subst P same (counts (names_for entry) (have_names entry asked is))

-- ---- what a stop comes to

-- a refused entry has an input that is too long
pub refused_is : (place : ℕ) (stop : FetchStop) (refusal : Refusal) → refused_at place stop ≡ Ok refusal → (input : Input) × (stop ≡ fetch.TooLong input) × (refusal ≡ TooLong input)
refused_is place (fetch.TooLong input) refusal is = (input, refl, cc)
refused_is place (fetch.Unread input) refusal is = absurd (cc)
refused_is place fetch.NoMemory refusal is = absurd (cc)

-- the verdict and the counts show the stop of the batch
pub place_shown : (place : ℕ) (stop : FetchStop) (at : BatchStop) (v : Verdict) → refused_at place stop ≡ Err at → ShownBy v (fetch_outcome stop) → PlaceShown place v at
place_shown place (fetch.TooLong input) at v is shown = absurd (cc)
place_shown place (fetch.Unread input) at v is shown =
    let P : BatchStop → Type 0 = λ b. PlaceShown place v b in
    let same : batch.Unread place input ≡ at = cc in
    subst P same (refl, shown)
place_shown place fetch.NoMemory at v is shown =
    let P : BatchStop → Type 0 = λ b. PlaceShown place v b in
    let same : batch.NoMemory ≡ at = cc in
    subst P same tt

pub place_counts : (place : ℕ) (entry : EntryNames) (stop : FetchStop) (at : BatchStop) (before now : Faults) → refused_at place stop ≡ Err at
    → CountsShow (names_for entry) (fetch_outcome stop) before now → PlaceCounts place entry at before now
place_counts place entry (fetch.TooLong input) at before now is counts = absurd (cc)
place_counts place entry (fetch.Unread input) at before now is counts =
    let P : BatchStop → Type 0 = λ b. PlaceCounts place entry b before now in
    let same : batch.Unread place input ≡ at = cc in
    subst P same (refl, counts)
place_counts place entry fetch.NoMemory at before now is counts =
    let P : BatchStop → Type 0 = λ b. PlaceCounts place entry b before now in
    let same : batch.NoMemory ≡ at = cc in
    subst P same counts
