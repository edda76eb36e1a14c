-- The turns of entries, one after the other, to their ends or to a stop. No public clause speaks of
-- this.
use Rattle.std.specs.Prelude.{◌≡◌, ⊤, ◌⊎◌, ℕ, List, [], ◌++◌, take, All, if◌then◌else◌}
use Rattle.std.specs.Prelude.{Option, None, Result, Ok, Err}
use Rattle.sgm_io.specs.Held.{Held}
use Rattle.sgm_io.specs.Unfinished.{NameSet}
use Rattle.sgm_words.specs.declared.files.Output.{Output}
use Rattle.sgm_list.specs.Entries.{EntryNames}
use Rattle.sgm_outcome.specs.declared.outcome.Outcome.{Outcome}
use Rattle.sgm_outcome.specs.declared.outcome.Outcome.TheVariants as run
use Rattle.sgm_stages.specs.Deliver.{after_files, FilesPut}
use Rattle.sgm_stages.specs.Ends.{Faults, SameFaults, OutStands, NoneBefore, order_of}
use Rattle.sgm_stages.specs.Stops.{write_outcome}
use Rattle.sgm_stages.specs.Verdict.{Verdict}
use Rattle.sgm_stages.specs.declared.stops.WriteStop.{WriteStop}
use Rattle.sgm_stages.specs.declared.stops.WriteStop.TheVariants as stop
use Rattle.sgm_series.specs.Plans.{IsJudged, is_refused}
use Rattle.sgm_series.specs.Turns.{files_for, summaries_for, line_for, AtEntry, IsReached}
use Rattle.sgm_series.specs.Turns.{HasOutput}
use Rattle.sgm_series.specs.Counted.{EntryShows}
use Rattle.sgm_series.specs.Unfinished.{NoMoreUnfinished, IsOutputAt}
use Rattle.sgm_series.specs.declared.making.BatchStop.{BatchStop}
use Rattle.sgm_series.specs.declared.making.BatchStop.TheVariants.{Unread, NoMemory}
use Rattle.sgm_series.specs.declared.turns.TurnsStop.{TurnsStop}

-- ---- one turn

-- the outcome of a single match that ended as the turn did
abbrev pub turn_end : {T : Type 0} → Result T WriteStop → Outcome
turn_end (Ok done) = run.Done
turn_end (Err stop) = write_outcome stop

-- the verdict shows the stop
abbrev pub StopShown : Verdict → WriteStop → Type 0
StopShown v (stop.Unwritten output) = HasOutput output v
StopShown v stop.NoMemory = ⊤

-- a turn that came to its end was that of an entry whose inputs could be read
abbrev pub TurnShown : {T : Type 0} → Verdict → Result T WriteStop → Type 0
TurnShown v (Ok done) = IsJudged v
TurnShown v (Err stop) = StopShown v stop

-- the line that a turn has for `err`
abbrev pub turn_line : {T : Type 0} → Verdict → Result T WriteStop → List ℕ
turn_line v (Ok done) = line_for v
turn_line v (Err stop) = []

-- how many entries it refuses
abbrev pub turn_refused : {T : Type 0} → Verdict → Result T WriteStop → ℕ
turn_refused v (Ok done) = if is_refused v then 1 else 0
turn_refused v (Err stop) = 0

-- which name is being written once it came to its end, or once several did: the one of before, or
-- none
abbrev pub WritingTurned : {T S : Type 0} → Result T S → Option (List ℕ) → Option (List ℕ) → Type 0
WritingTurned (Ok done) old new = (new ≡ old) ⊎ (new ≡ None)
WritingTurned (Err stop) old new = ⊤

-- ---- the turns of some entries

-- those that came to their ends
abbrev pub turned : {T : Type 0} → Result T TurnsStop → List Verdict → List Verdict
turned (Ok done) verdicts = verdicts
turned (Err stop) verdicts = take stop.place verdicts

-- all came to their ends; or one stopped, in which the verdict and the outcome of its match are
-- related so
abbrev pub EndsTurns : {T : Type 0} → (List Verdict → Type 0)
    → (List Verdict → Outcome → Verdict → Type 0)
    → Result T TurnsStop → List Verdict → Type 0
EndsTurns Whole Stopped (Ok done) verdicts = Whole verdicts
EndsTurns Whole Stopped (Err stop) verdicts =
    AtEntry stop.place verdicts (Stopped (take stop.place verdicts) (write_outcome stop.stop))

-- what is held afterwards
abbrev pub FilesTurned : {T : Type 0} → Result T TurnsStop → List Verdict → Held → Held → Type 0
FilesTurned result verdicts old new = EndsTurns
    (λ all. new ≡ after_files (files_for all) old)
    (λ before outcome v. FilesPut outcome v (after_files (files_for before) old) new)
    result verdicts

-- what `out` has received
abbrev pub OutTurned : {T : Type 0} → Result T TurnsStop → List Verdict → List ℕ → List ℕ → Type 0
OutTurned result verdicts old new = EndsTurns
    (λ all. new ≡ old ++ summaries_for all)
    (λ before outcome v. OutStands outcome v (old ++ summaries_for before) new)
    result verdicts

-- the verdicts show it
abbrev pub TurnsShown : {T : Type 0} → List Verdict → Result T TurnsStop → Type 0
TurnsShown verdicts (Ok done) = All IsJudged verdicts
TurnsShown verdicts (Err stop) = IsReached stop.place verdicts
    × AtEntry stop.place verdicts (λ v. StopShown v stop.stop)

-- the counts show it
abbrev pub TurnsCounts : {T : Type 0} → List EntryNames → Result T TurnsStop → Faults → Faults
    → Type 0
TurnsCounts entries (Ok done) before now = SameFaults before now
TurnsCounts entries (Err stop) before now =
    EntryShows entries stop.place (write_outcome stop.stop) before now

-- the name is that of the output of the entry that couldn't be written, or, where there was no
-- memory, of any of its outputs
abbrev pub IsLeftAt : List EntryNames → ℕ → WriteStop → List ℕ → Type 0
IsLeftAt entries place (stop.Unwritten output) name = IsOutputAt entries place output name
IsLeftAt entries place stop.NoMemory name = (output : Output) × IsOutputAt entries place output name

-- no more names are unfinished than before, but perhaps that of an output that wasn't written to
-- its end
abbrev pub UnfinishedTurned : {T : Type 0} → List EntryNames → Result T TurnsStop → NameSet
    → NameSet → Type 0
UnfinishedTurned entries (Ok done) old new = NoMoreUnfinished (λ name. ⊥) old new
UnfinishedTurned entries (Err stop) old new =
    NoMoreUnfinished (IsLeftAt entries stop.place stop.stop) old new

-- ---- the making of a batch

-- the verdicts show why nothing was made
abbrev pub BatchShown : List Verdict → BatchStop → Type 0
BatchShown verdicts (Unread place input) = IsReached place verdicts
    × AtEntry place verdicts (NoneBefore (order_of input))
BatchShown verdicts NoMemory = ⊤

-- the counts show it, whatever `out` has counted
abbrev pub BatchCounts : List EntryNames → BatchStop → Faults → Faults → Type 0
BatchCounts entries (Unread place input) before now =
    EntryShows entries place (run.ReadFault input) before now
BatchCounts entries NoMemory before now = SameFaults before now
