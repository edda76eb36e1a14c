-- What stands after a run, and what caused its outcome.
use Rattle.std.specs.Prelude.{◌≡◌, ◌≢◌, ◌⊎◌, ℕ, ◌+◌, ◌<◌, ◌≤◌, ⊤, List, [], ◌∷◌, ◌++◌, Bool, true}
use Rattle.std.specs.Prelude.{false, Option, None, Some, option_map, unwrap_or, Contains, Result}
use Rattle.std.specs.Prelude.{Ok, Err}
use Rattle.sgm_io.specs.Held.{Held, IsPrefix}
use Rattle.sgm_io.specs.Counts.{Counts, NoneFell, RoseAt, Rose}
use Rattle.sgm_io.specs.Sink.{GrowsByPrefix}
use Rattle.sgm_io.specs.declared.shelf.Shelf as shelf
use Rattle.sgm_io.specs.declared.sink.Sink as sink
use Rattle.sgm_list.specs.Names.{names_in}
use Rattle.sgm_words.specs.Operands.{FileNames, of_none, of_match, of_trace, of_change, of_merge}
use Rattle.sgm_words.specs.Operands.{MergeOperands, merge_operands, names_of, IsInputName}
use Rattle.sgm_words.specs.Operands.{IsOutputName}
use Rattle.sgm_words.specs.declared.usage.UsageFault.{UsageFault}
use Rattle.sgm_words.specs.declared.options.Options.{Options}
use Rattle.sgm_words.specs.declared.files.Input.{Input}
use Rattle.sgm_words.specs.declared.files.Input.TheVariants as input
use Rattle.sgm_words.specs.declared.files.Output.{Output}
use Rattle.sgm_words.specs.declared.files.Output.TheVariants.{Summary}
use Rattle.sgm_outcome.specs.declared.outcome.Refusal.{Refusal}
use Rattle.sgm_outcome.specs.declared.outcome.Refusal.TheVariants as refusal
use Rattle.sgm_outcome.specs.declared.outcome.Outcome.{Outcome}
use Rattle.sgm_outcome.specs.declared.outcome.Outcome.TheVariants.{Done, Usage, Refused, ReadFault}
use Rattle.sgm_outcome.specs.declared.outcome.Outcome.TheVariants.{WriteFault, NoMemory}
use Rattle.sgm_stages.specs.Outputs.{OutputFile, is_named}
use Rattle.sgm_stages.specs.Verdict.{Verdict, absent, refused, usage, outputs_of, summary_of}
use Rattle.sgm_stages.specs.Verdict.{IsFiles}

-- each file holds its text, and every other name is as before
pub record Hold (wanted : List OutputFile) (old new : Held) : Type 0 where
  pub texts : (file : OutputFile) → Contains wanted file → new file.name ≡ Some file.text
  pub others : (name : List ℕ) → is_named wanted name ≡ false → new name ≡ old name

-- the files before that of this output hold their texts; it is as before or holds the beginning of
-- its text, perhaps all of it; every other name is as before
pub record StoppedIn (output : Output) (wanted : List OutputFile) (old new : Held) : Type 0 where
  pub before : List OutputFile
  pub file : OutputFile
  pub later : List OutputFile
  pub split : wanted ≡ before ++ file ∷ later
  pub is_output : file.output ≡ output
  pub texts : (earlier : OutputFile) → Contains before earlier
      → new earlier.name ≡ Some earlier.text
  pub begun : (new file.name ≡ old file.name)
      ⊎ ((part : List ℕ) × IsPrefix part file.text × (new file.name ≡ Some part))
  pub others : (name : List ℕ) → is_named (before ++ file ∷ []) name ≡ false → new name ≡ old name

-- what is held after an outcome
abbrev pub FilesStand : Outcome → Verdict → Held → Held → Type 0
FilesStand Done verdict old new = Hold (outputs_of verdict) old new
FilesStand (Usage fault) verdict old new = new ≡ old
FilesStand (Refused refusal) verdict old new = new ≡ old
FilesStand (ReadFault input) verdict old new = new ≡ old
FilesStand (WriteFault output) verdict old new = StoppedIn output (outputs_of verdict) old new
    ⊎ ((output ≡ Summary) × Hold (outputs_of verdict) old new)
FilesStand NoMemory verdict old new = (new ≡ old)
    ⊎ ((output : Output) × StoppedIn output (outputs_of verdict) old new)

-- what `out` has received after an outcome
abbrev pub OutStands : Outcome → Verdict → List ℕ → List ℕ → Type 0
OutStands Done verdict old new = new ≡ old ++ summary_of verdict
OutStands (Usage fault) verdict old new = new ≡ old
OutStands (Refused refusal) verdict old new = new ≡ old
OutStands (ReadFault input) verdict old new = new ≡ old
OutStands (WriteFault output) verdict old new = (new ≡ old)
    ⊎ ((output ≡ Summary) × GrowsByPrefix (summary_of verdict) old new)
OutStands NoMemory verdict old new = new ≡ old

-- `out` has received nothing, but after Done and where writing the summary failed
abbrev pub OutUntouched : Outcome → List ℕ → List ℕ → Type 0
OutUntouched Done old new = ⊤
OutUntouched (Usage fault) old new = new ≡ old
OutUntouched (Refused refusal) old new = new ≡ old
OutUntouched (ReadFault input) old new = new ≡ old
OutUntouched (WriteFault output) old new = output ≢ Summary → new ≡ old
OutUntouched NoMemory old new = new ≡ old

-- which name is being written after an outcome of a run that writes files: none after Done; after a
-- fault of writing, and where there was no memory, it isn't said; else the one that was being
-- written before
abbrev pub WritingStands : Outcome → Option (List ℕ) → Option (List ℕ) → Type 0
WritingStands Done old new = new ≡ None
WritingStands (Usage fault) old new = new ≡ old
WritingStands (Refused refusal) old new = new ≡ old
WritingStands (ReadFault input) old new = new ≡ old
WritingStands (WriteFault output) old new = ⊤
WritingStands NoMemory old new = ⊤

-- the order in which a run fetches those inputs that it asks for
abbrev pub order_of : Input → ℕ
order_of input.List = 0
order_of input.Left = 1
order_of input.Right = 2
order_of input.Calibration = 3
order_of input.Earlier = 4
order_of input.Later = 5
order_of (input.Grid k) = k + 7

-- where in this order the text of an input is judged: a grid of a list before the next is fetched,
-- the others once all that the words name were fetched
abbrev pub text_order : Input → ℕ
text_order (input.Grid k) = k + 7
text_order input.List = 6
text_order input.Left = 6
text_order input.Right = 6
text_order input.Calibration = 6
text_order input.Earlier = 6
text_order input.Later = 6

-- where a refusal comes
abbrev pub refusal_order : Refusal → ℕ
refusal_order (refusal.TooLong i) = order_of i
refusal_order (refusal.Asc i fault) = text_order i
refusal_order (refusal.NotOnCells grid) = text_order (input.Grid grid)
refusal_order (refusal.List fault) = 6
refusal_order (refusal.Pgm side fault) = 6
refusal_order (refusal.Calib fault) = 6
refusal_order (refusal.SizesDiffer left right) = 6
refusal_order (refusal.VolumeTooLarge cells) = 6
refusal_order (refusal.Warp side fault) = 6
refusal_order (refusal.NotInside x y d) = 6
refusal_order (refusal.GridsDiffer at earlier later) = 6

-- none of the first n inputs is absent, and nothing that comes before the n-th is refused
pub record NoneBefore (n : ℕ) (verdict : Verdict) : Type 0 where
  pub present : (i : Input) → order_of i < n → verdict ≢ absent i
  pub sound : (r : Refusal) → refusal_order r < n → verdict ≢ refused r

-- the part of an outcome's cause that the verdict shows
abbrev pub ShownBy : Verdict → Outcome → Type 0
ShownBy verdict Done = IsFiles verdict
ShownBy verdict (Usage fault) = verdict ≡ usage fault
ShownBy verdict (Refused refusal) = verdict ≡ refused refusal
ShownBy verdict (ReadFault input) = NoneBefore (order_of input) verdict
ShownBy verdict (WriteFault output) = IsFiles verdict
ShownBy verdict NoMemory = ⊤

-- the counts of faults of a shelf and of `out`
pub record Faults : Type 0 where
  pub reads : Counts
  pub writes : Counts
  pub out : ℕ

abbrev pub faults : Counts → Counts → ℕ → Faults
faults reads writes out = record { reads = reads; writes = writes; out = out }

-- those of a shelf and of an `out` that has counted so many
abbrev pub shelf_faults : {S : Type 0} → shelf.Ghosts S → S → ℕ → Faults
shelf_faults s files out = faults (s.read_faults files) (s.write_faults files) out

-- those of a shelf and of an `out`
abbrev pub faults_at : {S O : Type 0} → shelf.Ghosts S → sink.Ghosts O → S → O → Faults
faults_at s o files out = shelf_faults s files (o.faults out)

-- no count changed
pub record SameFaults (before now : Faults) : Type 0 where
  pub reads : now.reads ≡ before.reads
  pub writes : now.writes ≡ before.writes
  pub out : now.out ≡ before.out

-- the count of reading the input's name rose, no count fell, and that of `out` is as before
pub record ReadRose (names : FileNames) (input : Input) (before now : Faults) : Type 0 where
  pub name : List ℕ
  pub is_name : IsInputName names input name
  pub reads : RoseAt name before.reads now.reads
  pub writes : NoneFell before.writes now.writes
  pub out : now.out ≡ before.out

-- the count of writing the output's name rose, no count fell, and that of `out` is as before
pub record FileRose (names : FileNames) (output : Output) (before now : Faults) : Type 0 where
  pub name : List ℕ
  pub is_name : IsOutputName names output name
  pub writes : RoseAt name before.writes now.writes
  pub reads : NoneFell before.reads now.reads
  pub out : now.out ≡ before.out

-- the count of `out` rose, and every other is as before
pub record OutRose (before now : Faults) : Type 0 where
  pub reads : now.reads ≡ before.reads
  pub writes : now.writes ≡ before.writes
  pub out_later : before.out ≤ now.out
  pub out : Rose before.out now.out

-- the part of an outcome's cause that the counts show
abbrev pub CountsShow : FileNames → Outcome → Faults → Faults → Type 0
CountsShow names Done before now = SameFaults before now
CountsShow names (Usage fault) before now = ⊥
CountsShow names (Refused refusal) before now = SameFaults before now
CountsShow names (ReadFault input) before now = ReadRose names input before now
CountsShow names (WriteFault output) before now = FileRose names output before now
    ⊎ ((output ≡ Summary) × OutRose before now)
CountsShow names NoMemory before now = SameFaults before now

-- the part of an outcome's cause that the counts show, where no file is read or written
abbrev pub OutCountsShow : Outcome → Faults → Faults → Type 0
OutCountsShow Done before now = SameFaults before now
OutCountsShow (Usage fault) before now = ⊥
OutCountsShow (Refused refusal) before now = SameFaults before now
OutCountsShow (ReadFault input) before now = ⊥
OutCountsShow (WriteFault output) before now = (output ≡ Summary) × OutRose before now
OutCountsShow NoMemory before now = SameFaults before now

-- what is held, where the shelf tells it
abbrev pub told_by : Bool → Held → Option Held
told_by true held = Some held
told_by false held = None

-- the names that the list of a merge asks for
abbrev pub names_listed : MergeOperands → Held → List (List ℕ)
names_listed asked held = names_in (unwrap_or (held asked.list) [])

-- the names of a run's files, so far as the words and what is told tell them
abbrev pub run_names : Options → List (List ℕ) → Option Held → FileNames
run_names options words told =
    names_of options words (option_map (names_listed (merge_operands words)) told)

-- over the words: a fault of the words is the outcome, and no count changed
abbrev pub RunCounts : Result Options UsageFault → List (List ℕ) → Option Held → Outcome → Faults
    → Faults → Type 0
RunCounts (Err fault) words told outcome before now = (outcome ≡ Usage fault)
    × SameFaults before now
RunCounts (Ok options) words told outcome before now =
    CountsShow (run_names options words told) outcome before now

-- which name is being written after an outcome: where no file is written, the one that was before
abbrev pub WritingEnds : FileNames → Outcome → Option (List ℕ) → Option (List ℕ) → Type 0
WritingEnds of_none outcome old new = new ≡ old
WritingEnds (of_trace asked) outcome old new = new ≡ old
WritingEnds (of_match asked) outcome old new = WritingStands outcome old new
WritingEnds (of_change asked) outcome old new = WritingStands outcome old new
WritingEnds (of_merge asked listed) outcome old new = WritingStands outcome old new

-- the same over the words
abbrev pub RunWriting : Result Options UsageFault → List (List ℕ) → Outcome
    → Option (List ℕ) → Option (List ℕ) → Type 0
RunWriting (Err fault) words outcome old new = new ≡ old
RunWriting (Ok options) words outcome old new =
    WritingEnds (names_of options words None) outcome old new

-- a stage over the shelf alone: at Ok no count changed; a stop is shown by the counts, whatever
-- `out` has counted
abbrev pub StageCounts : {T Stop S : Type 0} → (Stop → Faults → Faults → Type 0) → Result T Stop
    → shelf.Ghosts S → S → S → Type 0
StageCounts shows (Ok value) s old new =
    (s.read_faults new ≡ s.read_faults old) × (s.write_faults new ≡ s.write_faults old)
StageCounts shows (Err stop) s old new =
    (out : ℕ) → shows stop (shelf_faults s old out) (shelf_faults s new out)
