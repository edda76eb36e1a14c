-- What is left unfinished, and when `out` has received nothing, from batch to batch: n entries had their turns before, and the
-- batch has m.
use Rattle.std.proofs.Common.{◌≡◌, inl, inr, ℕ, zero, suc, ◌+◌, ◌*◌, arith, List, ◌++◌, append-nil, take, drop, Err, refl, sym, ap, subst, ◌∙◌, Contains}
use Rattle.std.proofs.lemmas.Grind.{flat_map-append}
use Rattle.std.proofs.lemmas.List.Elements.{Contains-append_cases}
use Rattle.std.proofs.Math.Seq.{take-add}
use Rattle.sgm_io.specs.Unfinished.{NameSet}
use Rattle.sgm_words.specs.declared.files.Output.{Output}
use Rattle.sgm_list.specs.Entries.{EntryNames}
use Rattle.sgm_stages.specs.Ends.{OutStands}
use Rattle.sgm_stages.specs.Outputs.{OutputFile}
use Rattle.sgm_stages.specs.Stops.{write_outcome}
use Rattle.sgm_stages.specs.Unfinished.{AreFinished}
use Rattle.sgm_stages.specs.Verdict.{Verdict, outputs_of}
use Rattle.sgm_stages.specs.declared.stops.WriteStop.{WriteStop}
use Rattle.sgm_stages.specs.declared.stops.WriteStop.TheVariants as stop
use Rattle.sgm_series.specs.Ends.{SeriesUntouched}
use Rattle.sgm_series.specs.Stands.{IsListOutcome, batch_outcome, outcome_for, stop_outcome}
use Rattle.sgm_series.specs.Turned.{IsLeftAt, OutTurned, UnfinishedTurned}
use Rattle.sgm_series.specs.Turns.{files_for, summaries_for}
use Rattle.sgm_series.specs.Unfinished.{IsOutputAt, NoMoreUnfinished, SeriesFinished, SeriesUnfinished}
use Rattle.sgm_series.specs.declared.making.BatchStop.{BatchStop}
use Rattle.sgm_series.specs.declared.making.BatchStop.TheVariants as batch
use Rattle.sgm_series.specs.declared.outcome.SeriesOutcome.{SeriesOutcome}
use Rattle.sgm_series.specs.declared.outcome.SeriesOutcome.TheVariants.{Done, Usage, RefusedList, SomeRefused, ListUnread, ReadFault, WriteFault, NoMemory}
use Rattle.sgm_series.specs.declared.turns.TurnsStop.{TurnsStop}
use Rattle.sgm_series.proofs.Slices.{cut_get}
use Rattle.sgm_series.proofs.Turning.{left_since, stays_finished}

-- the same names
pub no_more_along : (IsLeft : List ℕ → Type 0) (old mid new : NameSet) → new ≡ mid → NoMoreUnfinished IsLeft old mid → NoMoreUnfinished IsLeft old new
no_more_along IsLeft old mid new same left = let P : NameSet → Type 0 = λ names. NoMoreUnfinished IsLeft old names in subst P (sym same) left

pub no_more_back : (old mid new : NameSet) → mid ≡ old → NoMoreUnfinished (λ name. ⊥) mid new → NoMoreUnfinished (λ name. ⊥) old new
no_more_back old mid new same left = let P : NameSet → Type 0 = λ names. NoMoreUnfinished (λ name. ⊥) names new in subst P same left

-- ---- nothing was made

pub unmade_untouched : (n : ℕ) (at : BatchStop) (old new : List ℕ) → (batches : ℕ) × (n ≡ batches * 8) → (n ≡ 0 → new ≡ old) → SeriesUntouched (batch_outcome n at) old new
unmade_untouched n (batch.Unread place input) old new whole none = λ lt. let is = whole.1 in none (omega arith)
unmade_untouched n batch.NoMemory old new whole none = tt

pub unmade_unfinished : (n : ℕ) (entries : List EntryNames) (at : BatchStop) (old new : NameSet) → NoMoreUnfinished (λ name. ⊥) old new → SeriesUnfinished entries (batch_outcome n at) old new
unmade_unfinished n entries (batch.Unread place input) old new none = none
unmade_unfinished n entries batch.NoMemory old new none = λ name on. elim (none name on) [ inl was ↦ inl was | inr never ↦ absurd never ]

pub unmade_finished : (n : ℕ) (at : BatchStop) (vs : List Verdict) (names : NameSet) → SeriesFinished (batch_outcome n at) vs names
unmade_finished n (batch.Unread place input) vs names = tt
unmade_finished n batch.NoMemory vs names = tt

-- ---- a turn stopped

pub stop_untouched : (n : ℕ) (vs : List Verdict) (at : TurnsStop) (old mid new : List ℕ) → (n ≡ 0 → mid ≡ old) → OutTurned {T = Unit {0}} (Err at) vs mid new
    → SeriesUntouched (stop_outcome (n + at.place) at.stop) old new
stop_untouched n vs at old mid new none turned = by_stop at.stop at.place turned.2
  where
    by_stop : (s : WriteStop) (place : ℕ) → OutStands (write_outcome s) turned.0 (mid ++ summaries_for (take place vs)) new → SeriesUntouched (stop_outcome (n + place) s) old new
    by_stop (stop.Unwritten output) place stands = λ first other. elim stands [
      | inl is ↦ (let here : place ≡ 0 = omega arith in
          is ∙ ap (λ (k : ℕ). mid ++ summaries_for (take k vs)) here ∙ append-nil mid ∙ none (omega arith))
      | inr summary ↦ absurd (other summary.0)
    ]
    by_stop stop.NoMemory place stands = tt

pub stop_unfinished : (n m : ℕ) (entries : List EntryNames) (at : TurnsStop) (old mid new : NameSet) → NoMoreUnfinished (λ name. ⊥) old mid
    → UnfinishedTurned {T = Unit {0}} (take m (drop n entries)) (Err at) mid new → SeriesUnfinished entries (stop_outcome (n + at.place) at.stop) old new
stop_unfinished n m entries at old mid new none turned = by_stop at.stop turned
  where
    by_stop : (s : WriteStop) → NoMoreUnfinished (IsLeftAt (take m (drop n entries)) at.place s) mid new → SeriesUnfinished entries (stop_outcome (n + at.place) s) old new
    by_stop (stop.Unwritten output) left =
        left_since (IsOutputAt entries (n + at.place) output) old mid new none (λ name on. elim (left name on) [
          | inl was ↦ inl was
          | inr is ↦ inr (is.0, cut_get n m entries at.place is.0 is.1, is.2)
        ])
    by_stop stop.NoMemory left =
        left_since (λ name. (entry : ℕ) × (output : Output) × IsOutputAt entries entry output name) old mid new none (λ name on. elim (left name on) [
          | inl was ↦ inl was
          | inr is ↦ inr (n + at.place, is.0, (is.1.0, cut_get n m entries at.place is.1.0 is.1.1, is.1.2))
        ])

pub stop_finished : (entry : ℕ) (at : WriteStop) (vs : List Verdict) (names : NameSet) → SeriesFinished (stop_outcome entry at) vs names
stop_finished entry (stop.Unwritten output) vs names = tt
stop_finished entry stop.NoMemory vs names = tt

-- ---- a batch came to its end

pub finished_both : (n m : ℕ) (vs : List Verdict) (mid new : NameSet) → AreFinished (files_for (take n vs)) mid → NoMoreUnfinished (λ name. ⊥) mid new
    → AreFinished (files_for (take m (drop n vs))) new → AreFinished (files_for (take (n + m) vs)) new
finished_both n m vs mid new before none here = λ file among.
    let P : List OutputFile → Type 0 = λ fs. Contains fs file in
    let split = ap (λ (x : List Verdict). files_for x) (take-add n m vs) ∙ flat_map-append outputs_of (take n vs) (take m (drop n vs)) in
    elim (Contains-append_cases (files_for (take n vs)) (files_for (take m (drop n vs))) file (subst P split among)) [
      | inl earlier ↦ stays_finished mid new file.name none (before file earlier)
      | inr own ↦ here file own
    ]

-- ---- the outcome of a series

-- one that ended before its first entry
pub list_untouched : (outcome : SeriesOutcome) (out : List ℕ) → IsListOutcome outcome → SeriesUntouched outcome out out
list_untouched (RefusedList fault) out kind = refl
list_untouched ListUnread out kind = refl
list_untouched NoMemory out kind = tt
list_untouched Done out kind = absurd kind
list_untouched (Usage fault) out kind = absurd kind
list_untouched (SomeRefused refused) out kind = absurd kind
list_untouched (ReadFault entry input) out kind = absurd kind
list_untouched (WriteFault entry output) out kind = absurd kind

pub list_unfinished : (entries : List EntryNames) (outcome : SeriesOutcome) (old new : NameSet) → IsListOutcome outcome → new ≡ old → SeriesUnfinished entries outcome old new
list_unfinished entries (RefusedList fault) old new kind same = same
list_unfinished entries ListUnread old new kind same = same
list_unfinished entries NoMemory old new kind same = λ name on. inl (ap (λ (names : NameSet). names name) (sym same) ∙ on)
list_unfinished entries Done old new kind same = absurd kind
list_unfinished entries (Usage fault) old new kind same = absurd kind
list_unfinished entries (SomeRefused refused) old new kind same = absurd kind
list_unfinished entries (ReadFault entry input) old new kind same = absurd kind
list_unfinished entries (WriteFault entry output) old new kind same = absurd kind

pub list_finished : (outcome : SeriesOutcome) (vs : List Verdict) (names : NameSet) → IsListOutcome outcome → SeriesFinished outcome vs names
list_finished (RefusedList fault) vs names kind = tt
list_finished ListUnread vs names kind = tt
list_finished NoMemory vs names kind = tt
list_finished Done vs names kind = absurd kind
list_finished (Usage fault) vs names kind = absurd kind
list_finished (SomeRefused refused) vs names kind = absurd kind
list_finished (ReadFault entry input) vs names kind = absurd kind
list_finished (WriteFault entry output) vs names kind = absurd kind

-- one all of whose entries had their turns
pub all_untouched : (refused : ℕ) (old new : List ℕ) → SeriesUntouched (outcome_for refused) old new
all_untouched zero old new = tt
all_untouched (suc more) old new = tt

pub all_unfinished : (entries : List EntryNames) (refused : ℕ) (old new : NameSet) → NoMoreUnfinished (λ name. ⊥) old new → SeriesUnfinished entries (outcome_for refused) old new
all_unfinished entries zero old new none = none
all_unfinished entries (suc more) old new none = none

pub all_finished : (refused : ℕ) (vs : List Verdict) (names : NameSet) → AreFinished (files_for vs) names → SeriesFinished (outcome_for refused) vs names
all_finished zero vs names finished = finished
all_finished (suc more) vs names finished = finished

-- over the names that were unfinished before the list was fetched
pub unfinished_along : (entries : List EntryNames) (outcome : SeriesOutcome) (old mid new : NameSet) → mid ≡ old → SeriesUnfinished entries outcome mid new → SeriesUnfinished entries outcome old new
unfinished_along entries outcome old mid new same left = let P : NameSet → Type 0 = λ names. SeriesUnfinished entries outcome names new in subst P same left
