-- What the counts of faults show of an outcome.
use Rattle.std.specs.Prelude.{◌≡◌, ⊤, ◌⊎◌, ℕ, List, Some, slice_get}
use Rattle.sgm_io.specs.Counts.{RoseAt, NoneFell}
use Rattle.sgm_list.specs.Entries.{EntryNames}
use Rattle.sgm_words.specs.declared.files.Output.TheVariants.{Summary}
use Rattle.sgm_outcome.specs.declared.outcome.Outcome.{Outcome}
use Rattle.sgm_outcome.specs.declared.outcome.Outcome.TheVariants as run
use Rattle.sgm_stages.specs.Ends.{Faults, SameFaults, CountsShow, OutRose}
use Rattle.sgm_series.specs.Plans.{names_for}
use Rattle.sgm_series.specs.declared.outcome.SeriesOutcome.{SeriesOutcome}
use Rattle.sgm_series.specs.declared.outcome.SeriesOutcome.TheVariants.{Done, Usage, RefusedList}
use Rattle.sgm_series.specs.declared.outcome.SeriesOutcome.TheVariants.{SomeRefused, ListUnread}
use Rattle.sgm_series.specs.declared.outcome.SeriesOutcome.TheVariants.{ReadFault, WriteFault}
use Rattle.sgm_series.specs.declared.outcome.SeriesOutcome.TheVariants.{NoMemory}

-- the count of reading this name rose, and that of `out` is as before
pub record NameUnread (name : List ℕ) (before now : Faults) : Type 0 where
  pub reads : RoseAt name before.reads now.reads
  pub writes : NoneFell before.writes now.writes
  pub out : now.out ≡ before.out

-- the count of writing this name rose, and that of `out` is as before
pub record NameUnwritten (name : List ℕ) (before now : Faults) : Type 0 where
  pub writes : RoseAt name before.writes now.writes
  pub reads : NoneFell before.reads now.reads
  pub out : now.out ≡ before.out

-- the count of reading the list's name rose after ListUnread, that of reading some name after a
-- fault of reading, and that of writing some name, or of `out`, after a fault of writing; after
-- each other outcome no count changed
abbrev pub SeriesCounts : List ℕ → SeriesOutcome → Faults → Faults → Type 0
SeriesCounts list Done before now = SameFaults before now
SeriesCounts list (Usage fault) before now = SameFaults before now
SeriesCounts list (RefusedList fault) before now = SameFaults before now
SeriesCounts list (SomeRefused entries) before now = SameFaults before now
SeriesCounts list ListUnread before now = NameUnread list before now
SeriesCounts list (ReadFault entry input) before now = (name : List ℕ) × NameUnread name before now
SeriesCounts list (WriteFault entry output) before now =
    ((name : List ℕ) × NameUnwritten name before now) ⊎ ((output ≡ Summary) × OutRose before now)
SeriesCounts list NoMemory before now = SameFaults before now

-- the counts show the outcome of this entry's match
abbrev pub EntryShows : List EntryNames → ℕ → Outcome → Faults → Faults → Type 0
EntryShows entries entry outcome before now =
    (asked : EntryNames) × (slice_get entries entry ≡ Some asked)
    × CountsShow (names_for asked) outcome before now

-- and the name is that of the entry's input, or of its output
abbrev pub EntryCounts : List EntryNames → SeriesOutcome → Faults → Faults → Type 0
EntryCounts entries Done before now = ⊤
EntryCounts entries (Usage fault) before now = ⊤
EntryCounts entries (RefusedList fault) before now = ⊤
EntryCounts entries (SomeRefused entries_refused) before now = ⊤
EntryCounts entries ListUnread before now = ⊤
EntryCounts entries (ReadFault entry input) before now =
    EntryShows entries entry (run.ReadFault input) before now
EntryCounts entries (WriteFault entry output) before now =
    EntryShows entries entry (run.WriteFault output) before now
EntryCounts entries NoMemory before now = ⊤
