-- What the outcome must be where no count of faults stands in the way.
use Rattle.std.specs.Prelude.{◌≡◌, ◌⊎◌, ⊤, ℕ, ◌<◌, List, All, Contains, Some, slice_get}
use Rattle.std.specs.Prelude.{count_by}
use Rattle.sgm_io.specs.Counts.{Rose}
use Rattle.sgm_words.specs.Operands.{IsInputName}
use Rattle.sgm_words.specs.declared.files.Input.{Input}
use Rattle.sgm_list.specs.Entries.{EntryNames}
use Rattle.sgm_stages.specs.Ends.{Faults}
use Rattle.sgm_stages.specs.Outputs.{OutputFile}
use Rattle.sgm_stages.specs.Verdict.{Verdict, IsFiles, absent}
use Rattle.sgm_series.specs.Plans.{Plan, usage, no_list, faulty, series, names_for, is_refused}
use Rattle.sgm_series.specs.Plans.{IsJudged}
use Rattle.sgm_series.specs.Turns.{files_for, IsReached}
use Rattle.sgm_series.specs.declared.outcome.SeriesOutcome.{SeriesOutcome}
use Rattle.sgm_series.specs.declared.outcome.SeriesOutcome.TheVariants.{Done, RefusedList}
use Rattle.sgm_series.specs.declared.outcome.SeriesOutcome.TheVariants.{SomeRefused}
use Rattle.sgm_series.specs.declared.outcome.SeriesOutcome.TheVariants.{ReadFault}
use Rattle.sgm_series.specs.declared.outcome.SeriesOutcome.TheVariants.{NoMemory}

-- the name is that of an input of one of the entries
abbrev pub IsEntryInput : List EntryNames → List ℕ → Type 0
IsEntryInput entries name = (entry : EntryNames) × (input : Input) × Contains entries entry
    × IsInputName (names_for entry) input name

-- no count of reading an input's name rose, but perhaps that of these names
abbrev pub OnlyReadsRose : List EntryNames → (List ℕ → Type 0) → Faults → Faults → Type 0
OnlyReadsRose entries Excepted before now = (name : List ℕ) → IsEntryInput entries name
    → Rose (before.reads name) (now.reads name) → Excepted name

abbrev pub NoReadsRose : List EntryNames → Faults → Faults → Type 0
NoReadsRose entries before now = OnlyReadsRose entries (λ name. ⊥) before now

-- no count of writing a file of the verdicts rose, nor that of `out`
pub record NoWritesRose (verdicts : List Verdict) (before now : Faults) : Type 0 where
  pub file : (file : OutputFile) → Contains (files_for verdicts) file
      → Rose (before.writes file.name) (now.writes file.name) → ⊥
  pub out : Rose before.out now.out → ⊥

-- the outcome is this one, or there was no memory
abbrev pub IsUnlessMemory : SeriesOutcome → SeriesOutcome → Type 0
IsUnlessMemory outcome wanted = (outcome ≡ wanted) ⊎ (outcome ≡ NoMemory)

-- entries whose inputs can all be read, and whose outputs can be written
pub record EntriesComplete (list : List ℕ) (entries : List EntryNames) (verdicts : List Verdict)
    (outcome : SeriesOutcome) (before now : Faults) : Type 0 where
  -- all entries' files are called for: they are written
  pub done : All IsFiles verdicts → (Rose (before.reads list) (now.reads list) → ⊥)
      → NoReadsRose entries before now → NoWritesRose verdicts before now
      → IsUnlessMemory outcome Done
  -- some are refused: they are counted
  pub some_refused : (refused : ℕ) → All IsJudged verdicts → count_by is_refused verdicts ≡ refused
      → 0 < refused
      → (Rose (before.reads list) (now.reads list) → ⊥) → NoReadsRose entries before now
      → NoWritesRose verdicts before now
      → IsUnlessMemory outcome (SomeRefused refused)
  -- the first entry of which an input is absent is told
  pub absent : (entry : ℕ) (asked : EntryNames) (input : Input) (name : List ℕ)
      → IsReached entry verdicts
      → slice_get entries entry ≡ Some asked → slice_get verdicts entry ≡ Some (absent input)
      → IsInputName (names_for asked) input name
      → (Rose (before.reads list) (now.reads list) → ⊥)
      → OnlyReadsRose entries (λ other. other ≡ name) before now → NoWritesRose verdicts before now
      → IsUnlessMemory outcome (ReadFault entry input)

-- over the plan, for a list of this name
abbrev pub SeriesComplete : List ℕ → Plan → SeriesOutcome → Faults → Faults → Type 0
SeriesComplete list (usage fault) outcome before now = ⊤
SeriesComplete list no_list outcome before now = ⊤
SeriesComplete list (faulty fault) outcome before now = (Rose (before.reads list) (now.reads list)
    → ⊥) → IsUnlessMemory outcome (RefusedList fault)
SeriesComplete list (series entries verdicts) outcome before now =
    EntriesComplete list entries verdicts outcome before now
