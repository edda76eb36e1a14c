-- What stands after a series, and what caused its outcome.
use Rattle.std.specs.Prelude.{◌≡◌, ◌≢◌, ⊤, ◌⊎◌, ℕ, ◌+◌, ◌*◌, ◌<◌, ◌≤◌, List, ◌++◌, take}
use Rattle.std.specs.Prelude.{count_by, All}
use Rattle.sgm_io.specs.Held.{Held}
use Rattle.sgm_stages.specs.Ends.{Hold, FilesStand, OutStands, NoneBefore, order_of}
use Rattle.sgm_stages.specs.Verdict.{Verdict, IsFiles}
use Rattle.sgm_words.specs.declared.files.Output.TheVariants.{Summary}
use Rattle.sgm_outcome.specs.declared.outcome.Outcome.TheVariants as run
use Rattle.sgm_series.specs.Plans.{Plan, usage, no_list, faulty, series, is_refused}
use Rattle.sgm_series.specs.Plans.{IsJudged}
use Rattle.sgm_series.specs.Turns.{files_for, summaries_for, AtEntry, IsReached, HasOutput}
use Rattle.sgm_series.specs.declared.outcome.SeriesOutcome.{SeriesOutcome}
use Rattle.sgm_series.specs.declared.outcome.SeriesOutcome.TheVariants.{Done, Usage, RefusedList}
use Rattle.sgm_series.specs.declared.outcome.SeriesOutcome.TheVariants.{SomeRefused, ListUnread}
use Rattle.sgm_series.specs.declared.outcome.SeriesOutcome.TheVariants.{ReadFault, WriteFault}
use Rattle.sgm_series.specs.declared.outcome.SeriesOutcome.TheVariants.{NoMemory}

-- ---- the cause

-- the part of an outcome's cause that the verdicts of the entries show
abbrev pub EntriesShow : List Verdict → SeriesOutcome → Type 0
EntriesShow verdicts Done = All IsFiles verdicts
EntriesShow verdicts (Usage fault) = ⊥
EntriesShow verdicts (RefusedList fault) = ⊥
EntriesShow verdicts (SomeRefused entries) = All IsJudged verdicts
    × (count_by is_refused verdicts ≡ entries) × (1 ≤ entries)
EntriesShow verdicts ListUnread = ⊤
EntriesShow verdicts (ReadFault entry input) = IsReached entry verdicts
    × AtEntry entry verdicts (NoneBefore (order_of input))
EntriesShow verdicts (WriteFault entry output) = IsReached entry verdicts
    × AtEntry entry verdicts (HasOutput output)
EntriesShow verdicts NoMemory = ⊤

-- the list could not be read, or there was no memory
abbrev pub IsUnread : SeriesOutcome → Type 0
IsUnread outcome = (outcome ≡ ListUnread) ⊎ (outcome ≡ NoMemory)

-- the part that the plan shows
abbrev pub SeriesShownBy : Plan → SeriesOutcome → Type 0
SeriesShownBy (usage fault) outcome = outcome ≡ Usage fault
SeriesShownBy no_list outcome = IsUnread outcome
SeriesShownBy (faulty fault) outcome = (outcome ≡ RefusedList fault) ⊎ IsUnread outcome
SeriesShownBy (series entries verdicts) outcome = EntriesShow verdicts outcome

-- ---- how far it came

-- so many entries had their turns, to their ends: all of them; or those of the batches of eight
-- before the one that has an input that couldn't be read; or those before one whose output couldn't
-- be written
abbrev pub HadTurns : SeriesOutcome → ℕ → ℕ → Type 0
HadTurns Done count turns = turns ≡ count
HadTurns (Usage fault) count turns = turns ≡ 0
HadTurns (RefusedList fault) count turns = turns ≡ 0
HadTurns (SomeRefused entries) count turns = turns ≡ count
HadTurns ListUnread count turns = turns ≡ 0
HadTurns (ReadFault entry input) count turns = (batches : ℕ) × (turns ≡ batches * 8)
    × (turns ≤ entry) × (entry < turns + 8)
HadTurns (WriteFault entry output) count turns = turns ≡ entry
HadTurns NoMemory count turns = turns ≤ count

-- the files of the entries that had their turns hold their texts, and every other name is as before
abbrev pub HoldTurns : ℕ → List Verdict → Held → Held → Type 0
HoldTurns turns verdicts old new = Hold (files_for (take turns verdicts)) old new

-- the same, but in the next entry, whose files stand as after a single match that ended so
abbrev pub HoldStop : ℕ → List Verdict → (Verdict → Held → Held → Type 0) → Held → Held → Type 0
HoldStop turns verdicts Stands old new =
    (between : Held) × HoldTurns turns verdicts old between
    × AtEntry turns verdicts (λ v. Stands v between new)

-- what is held afterwards
abbrev pub SeriesFiles : SeriesOutcome → ℕ → List Verdict → Held → Held → Type 0
SeriesFiles Done turns verdicts old new = HoldTurns turns verdicts old new
SeriesFiles (Usage fault) turns verdicts old new = HoldTurns turns verdicts old new
SeriesFiles (RefusedList fault) turns verdicts old new = HoldTurns turns verdicts old new
SeriesFiles (SomeRefused entries) turns verdicts old new = HoldTurns turns verdicts old new
SeriesFiles ListUnread turns verdicts old new = HoldTurns turns verdicts old new
SeriesFiles (ReadFault entry input) turns verdicts old new = HoldTurns turns verdicts old new
SeriesFiles (WriteFault entry output) turns verdicts old new =
    HoldStop turns verdicts (FilesStand (run.WriteFault output)) old new
SeriesFiles NoMemory turns verdicts old new = HoldTurns turns verdicts old new
    ⊎ HoldStop turns verdicts (FilesStand run.NoMemory) old new

-- what `out` has received: the summaries of those entries, and of the next one what a single match
-- that ended so adds
abbrev pub SeriesOut : SeriesOutcome → ℕ → List Verdict → List ℕ → List ℕ → Type 0
SeriesOut Done turns verdicts old new = new ≡ old ++ summaries_for (take turns verdicts)
SeriesOut (Usage fault) turns verdicts old new = new ≡ old
SeriesOut (RefusedList fault) turns verdicts old new = new ≡ old
SeriesOut (SomeRefused entries) turns verdicts old new = new
    ≡ old ++ summaries_for (take turns verdicts)
SeriesOut ListUnread turns verdicts old new = new ≡ old
SeriesOut (ReadFault entry input) turns verdicts old new = new
    ≡ old ++ summaries_for (take turns verdicts)
SeriesOut (WriteFault entry output) turns verdicts old new =
    AtEntry turns verdicts
    (λ v. OutStands (run.WriteFault output) v (old ++ summaries_for (take turns verdicts)) new)
SeriesOut NoMemory turns verdicts old new = new ≡ old ++ summaries_for (take turns verdicts)

-- `out` has received nothing where there are no entries, where an input of the first eight couldn't
-- be read, and where a file of the first one couldn't be written
abbrev pub SeriesUntouched : SeriesOutcome → List ℕ → List ℕ → Type 0
SeriesUntouched Done old new = ⊤
SeriesUntouched (Usage fault) old new = new ≡ old
SeriesUntouched (RefusedList fault) old new = new ≡ old
SeriesUntouched (SomeRefused entries) old new = ⊤
SeriesUntouched ListUnread old new = new ≡ old
SeriesUntouched (ReadFault entry input) old new = entry < 8 → new ≡ old
SeriesUntouched (WriteFault entry output) old new = entry ≡ 0 → output ≢ Summary → new ≡ old
SeriesUntouched NoMemory old new = ⊤
