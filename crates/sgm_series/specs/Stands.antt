-- How the entries of a series stand, as their files are put. No public clause speaks of this.
use Rattle.std.specs.Prelude.{◌≡◌, ⊤, ◌⊎◌, ℕ, zero, suc, ◌+◌, List, take, All, Option, None, Some}
use Rattle.std.specs.Prelude.{Result, Ok, Err}
use Rattle.sgm_io.specs.Held.{Held}
use Rattle.sgm_io.specs.declared.shelf.FetchError.{FetchError}
use Rattle.sgm_io.specs.declared.shelf.FetchError.TheVariants as fetch
use Rattle.sgm_list.specs.Clashes.{first_clash}
use Rattle.sgm_list.specs.Entries.{EntryNames, entries_of}
use Rattle.sgm_list.specs.Faults.{list_fault}
use Rattle.sgm_list.specs.declared.fault.ListError.{ListError}
use Rattle.sgm_list.specs.declared.fault.ListError.TheVariants as error
use Rattle.sgm_list.specs.declared.fault.ListFault.TheVariants.{TooLong}
use Rattle.sgm_outcome.specs.declared.outcome.Outcome.{Outcome}
use Rattle.sgm_outcome.specs.declared.outcome.Outcome.TheVariants as run
use Rattle.sgm_outcome.specs.declared.outcome.Refusal.{Refusal}
use Rattle.sgm_outcome.specs.declared.outcome.Refusal.TheVariants as refusal
use Rattle.sgm_stages.specs.Deliver.{after_files, FilesPut}
use Rattle.sgm_stages.specs.Ends.{Faults, SameFaults}
use Rattle.sgm_stages.specs.Verdict.{Verdict}
use Rattle.sgm_stages.specs.declared.stops.FetchStop.{FetchStop}
use Rattle.sgm_stages.specs.declared.stops.FetchStop.TheVariants as fetch_stop
use Rattle.sgm_stages.specs.declared.stops.WriteStop.{WriteStop}
use Rattle.sgm_stages.specs.declared.stops.WriteStop.TheVariants as stop
use Rattle.sgm_series.specs.Counted.{SeriesCounts}
use Rattle.sgm_series.specs.Ends.{EntriesShow}
use Rattle.sgm_series.specs.Plans.{IsJudged}
use Rattle.sgm_series.specs.Turns.{files_for, AtEntry}
use Rattle.sgm_series.specs.declared.making.BatchStop.{BatchStop}
use Rattle.sgm_series.specs.declared.making.BatchStop.TheVariants as batch
use Rattle.sgm_series.specs.declared.outcome.SeriesOutcome.{SeriesOutcome}
use Rattle.sgm_series.specs.declared.outcome.SeriesOutcome.TheVariants.{Done, Usage, RefusedList}
use Rattle.sgm_series.specs.declared.outcome.SeriesOutcome.TheVariants.{SomeRefused, ListUnread}
use Rattle.sgm_series.specs.declared.outcome.SeriesOutcome.TheVariants.{ReadFault, WriteFault}
use Rattle.sgm_series.specs.declared.outcome.SeriesOutcome.TheVariants.{NoMemory}

-- no entry would overwrite another's files
abbrev pub AreApart : List EntryNames → Type 0
AreApart entries = (list : List ℕ) × (first_clash list entries ≡ None)

-- the outcome of entries that were all taken to their ends, or of those that weren't
abbrev pub end_of : {T : Type 0} → Result T SeriesOutcome → SeriesOutcome
end_of (Ok done) = Done
end_of (Err outcome) = outcome

-- what is held once the files of so many entries were put, one after the other
abbrev pub PutTurns : ℕ → List Verdict → Held → Held → Type 0
PutTurns turns verdicts old new = new ≡ after_files (files_for (take turns verdicts)) old

-- the same, but in the next entry, whose files are put as in a single match that ended so
abbrev pub PutStop : ℕ → List Verdict → Outcome → Held → Held → Type 0
PutStop turns verdicts outcome old new =
    AtEntry turns verdicts
    (λ v. FilesPut outcome v (after_files (files_for (take turns verdicts)) old) new)

-- what is held after an outcome
abbrev pub SeriesPut : SeriesOutcome → ℕ → List Verdict → Held → Held → Type 0
SeriesPut Done turns verdicts old new = PutTurns turns verdicts old new
SeriesPut (Usage fault) turns verdicts old new = PutTurns turns verdicts old new
SeriesPut (RefusedList fault) turns verdicts old new = PutTurns turns verdicts old new
SeriesPut (SomeRefused entries) turns verdicts old new = PutTurns turns verdicts old new
SeriesPut ListUnread turns verdicts old new = PutTurns turns verdicts old new
SeriesPut (ReadFault entry input) turns verdicts old new = PutTurns turns verdicts old new
SeriesPut (WriteFault entry output) turns verdicts old new =
    PutStop turns verdicts (run.WriteFault output) old new
SeriesPut NoMemory turns verdicts old new = PutTurns turns verdicts old new
    ⊎ PutStop turns verdicts run.NoMemory old new

-- ---- the list

-- the bytes held have no fault as a list of this name, and these are its entries
pub record IsListed (list : List ℕ) (held : Held) (entries : List EntryNames) : Type 0 where
  pub bytes : List ℕ
  pub held_are : held list ≡ Some bytes
  pub no_fault : list_fault list bytes ≡ None
  pub are : entries ≡ entries_of bytes

-- why there are no entries: the list is absent or can't be read, or it has this fault, or there was
-- no memory
abbrev pub IsListEnd : Option (List ℕ) → List ℕ → SeriesOutcome → Type 0
IsListEnd held list (RefusedList fault) = (bytes : List ℕ) × (held ≡ Some bytes)
    × (list_fault list bytes ≡ Some fault)
IsListEnd held list ListUnread = ⊤
IsListEnd held list NoMemory = ⊤
IsListEnd held list Done = ⊥
IsListEnd held list (Usage fault) = ⊥
IsListEnd held list (SomeRefused entries) = ⊥
IsListEnd held list (ReadFault entry input) = ⊥
IsListEnd held list (WriteFault entry output) = ⊥

-- no count changed where there are entries, and else the counts show the outcome
abbrev pub ListCounts : {T : Type 0} → List ℕ → Result T SeriesOutcome → Faults → Faults → Type 0
ListCounts list (Ok entries) before now = SameFaults before now
ListCounts list (Err outcome) before now = SeriesCounts list outcome before now

-- ---- outcomes of parts of a series

-- that of a list that can't be fetched, and that of one that has no entries to give
abbrev pub unfetched_outcome : FetchError → SeriesOutcome
unfetched_outcome fetch.Failed = ListUnread
unfetched_outcome fetch.TooLong = RefusedList TooLong
unfetched_outcome fetch.NoMemory = NoMemory

abbrev pub unlisted_outcome : ListError → SeriesOutcome
unlisted_outcome (error.Fault fault) = RefusedList fault
unlisted_outcome error.NoMemory = NoMemory

-- one that ends a series before its first entry
abbrev pub IsListOutcome : SeriesOutcome → Type 0
IsListOutcome (RefusedList fault) = ⊤
IsListOutcome ListUnread = ⊤
IsListOutcome NoMemory = ⊤
IsListOutcome Done = ⊥
IsListOutcome (Usage fault) = ⊥
IsListOutcome (SomeRefused entries) = ⊥
IsListOutcome (ReadFault entry input) = ⊥
IsListOutcome (WriteFault entry output) = ⊥

-- one that ends it at an entry
abbrev pub IsEntryOutcome : SeriesOutcome → Type 0
IsEntryOutcome (ReadFault entry input) = ⊤
IsEntryOutcome (WriteFault entry output) = ⊤
IsEntryOutcome NoMemory = ⊤
IsEntryOutcome Done = ⊥
IsEntryOutcome (Usage fault) = ⊥
IsEntryOutcome (RefusedList fault) = ⊥
IsEntryOutcome (SomeRefused entries) = ⊥
IsEntryOutcome ListUnread = ⊥

-- the outcome where nothing was made for a batch, whose first entry has this number
abbrev pub batch_outcome : ℕ → BatchStop → SeriesOutcome
batch_outcome first (batch.Unread place input) = ReadFault (first + place) input
batch_outcome first batch.NoMemory = NoMemory

-- an entry whose inputs weren't fetched is refused where one is too long; else its batch stops
abbrev pub refused_at : ℕ → FetchStop → Result Refusal BatchStop
refused_at place (fetch_stop.TooLong input) = Ok (refusal.TooLong input)
refused_at place (fetch_stop.Unread input) = Err (batch.Unread place input)
refused_at place fetch_stop.NoMemory = Err batch.NoMemory

-- the place of the entry that stopped it
abbrev pub place_in : BatchStop → ℕ
place_in (batch.Unread place input) = place
place_in batch.NoMemory = 0

-- the outcome of a stop at this entry
abbrev pub stop_outcome : ℕ → WriteStop → SeriesOutcome
stop_outcome entry (stop.Unwritten output) = WriteFault entry output
stop_outcome entry stop.NoMemory = NoMemory

-- the outcome where so many entries are refused, and all others written
abbrev pub outcome_for : ℕ → SeriesOutcome
outcome_for zero = Done
outcome_for (suc more) = SomeRefused (suc more)

-- the verdicts show how the entries ended
abbrev pub EntriesEnd : {T : Type 0} → List Verdict → Result T SeriesOutcome → Type 0
EntriesEnd verdicts (Ok done) = All IsJudged verdicts
EntriesEnd verdicts (Err outcome) = EntriesShow verdicts outcome
