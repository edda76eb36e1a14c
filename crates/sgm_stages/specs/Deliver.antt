-- Writing the outputs, one after the other.
use Rattle.std.specs.Prelude.{◌≡◌, ◌⊎◌, ⊤, ℕ, List, [], ◌∷◌, ◌++◌, Option, None, All, Result, Ok}
use Rattle.std.specs.Prelude.{Err}
use Rattle.sgm_io.specs.Held.{Held, put, IsPrefix}
use Rattle.sgm_io.specs.Unfinished.{NameSet, with_name, without_name}
use Rattle.sgm_words.specs.Operands.{FileNames}
use Rattle.sgm_words.specs.declared.files.Output.{Output}
use Rattle.sgm_words.specs.declared.files.Output.TheVariants.{Summary}
use Rattle.sgm_outcome.specs.declared.outcome.Outcome.{Outcome}
use Rattle.sgm_outcome.specs.declared.outcome.Outcome.TheVariants.{Done, Usage, Refused, ReadFault}
use Rattle.sgm_outcome.specs.declared.outcome.Outcome.TheVariants.{WriteFault, NoMemory}
use Rattle.sgm_stages.specs.Outputs.{OutputFile, IsNamed}
use Rattle.sgm_stages.specs.Verdict.{Verdict, files, outputs_of}
use Rattle.sgm_stages.specs.Ends.{CountsShow, Faults}
use Rattle.sgm_stages.specs.Stops.{write_outcome}
use Rattle.sgm_stages.specs.declared.files.Delivery.{Delivery}
use Rattle.sgm_stages.specs.declared.stops.WriteStop.{WriteStop}
use Rattle.sgm_stages.specs.declared.stops.WriteStop.TheVariants as stop

-- the verdict that a delivery is for
abbrev pub delivered_by : Delivery → Verdict
delivered_by delivery = files delivery.files.items delivery.summary.items

-- ---- what is held

-- what is held once these files were written, one after the other
abbrev pub after_files : List OutputFile → Held → Held
after_files [] held = held
after_files (file ∷ later) held = after_files later (put file.name file.text held)

-- the file is as before, or holds the beginning of its text, perhaps all of it; every other name is
-- as before
abbrev pub BeginsFile : OutputFile → Held → Held → Type 0
BeginsFile file old new = (new ≡ old)
    ⊎ ((part : List ℕ) × IsPrefix part file.text × (new ≡ put file.name part old))

-- the files before this output were written, its file was begun at most
pub record EndsIn (output : Output) (wanted : List OutputFile) (old new : Held) : Type 0 where
  pub before : List OutputFile
  pub file : OutputFile
  pub later : List OutputFile
  pub split : wanted ≡ before ++ file ∷ later
  pub is_output : file.output ≡ output
  pub begun : BeginsFile file (after_files before old) new

-- the file was written, or was begun at most
abbrev pub WritesFile : {T : Type 0} → OutputFile → Result T WriteStop → Held → Held → Type 0
WritesFile file (Ok done) old new = new ≡ put file.name file.text old
WritesFile file (Err stop) old new = BeginsFile file old new

-- a stop at this output
abbrev pub IsStopAt : Output → WriteStop → Type 0
IsStopAt output (stop.Unwritten at) = at ≡ output
IsStopAt output stop.NoMemory = ⊤

abbrev pub StopsAtFile : {T : Type 0} → Output → Result T WriteStop → Type 0
StopsAtFile output (Ok done) = ⊤
StopsAtFile output (Err stop) = IsStopAt output stop

-- the run stopped in one of the files
abbrev pub Stops : List OutputFile → WriteStop → Held → Held → Type 0
Stops wanted (stop.Unwritten output) old new = EndsIn output wanted old new
Stops wanted stop.NoMemory old new = (output : Output) × EndsIn output wanted old new

-- all files were written, or the run stopped in one of them
abbrev pub WritesFiles : {T : Type 0} → List OutputFile → Result T WriteStop → Held → Held → Type 0
WritesFiles wanted (Ok done) old new = new ≡ after_files wanted old
WritesFiles wanted (Err stop) old new = Stops wanted stop old new

-- what is held after an outcome, as the files are written
abbrev pub FilesPut : Outcome → Verdict → Held → Held → Type 0
FilesPut Done verdict old new = new ≡ after_files (outputs_of verdict) old
FilesPut (Usage fault) verdict old new = new ≡ old
FilesPut (Refused refusal) verdict old new = new ≡ old
FilesPut (ReadFault input) verdict old new = new ≡ old
FilesPut (WriteFault output) verdict old new =
    EndsIn output (outputs_of verdict) old new
    ⊎ ((output ≡ Summary) × (new ≡ after_files (outputs_of verdict) old))
FilesPut NoMemory verdict old new = (new ≡ old)
    ⊎ ((output : Output) × EndsIn output (outputs_of verdict) old new)

-- ---- which names are being written, and which are unfinished

-- after Ok no name is being written
abbrev pub EndsWriting : {T : Type 0} → Result T WriteStop → Option (List ℕ) → Type 0
EndsWriting (Ok done) new = new ≡ None
EndsWriting (Err stop) new = ⊤

-- the names that are unfinished once these files were written, one after the other
abbrev pub after_finishing : List OutputFile → NameSet → NameSet
after_finishing [] unfinished = unfinished
after_finishing (file ∷ later) unfinished =
    after_finishing later (without_name file.name unfinished)

-- the file is as before, or is unfinished
abbrev pub LeavesFile : OutputFile → NameSet → NameSet → Type 0
LeavesFile file old new = (new ≡ old) ⊎ (new ≡ with_name file.name old)

-- the file is finished, or was begun at most
abbrev pub FinishesFile : {T : Type 0} → OutputFile → Result T WriteStop → NameSet → NameSet
    → Type 0
FinishesFile file (Ok done) old new = new ≡ without_name file.name old
FinishesFile file (Err stop) old new = LeavesFile file old new

-- the files before that of a stop are finished, that one was begun at most
pub record LeavesOne (wanted : List OutputFile) (stop : WriteStop)
    (old new : NameSet) : Type 0 where
  pub before : List OutputFile
  pub file : OutputFile
  pub later : List OutputFile
  pub split : wanted ≡ before ++ file ∷ later
  pub is_stop : IsStopAt file.output stop
  pub left : LeavesFile file (after_finishing before old) new

-- all files are finished, or the run stopped in one of them
abbrev pub FinishesFiles : {T : Type 0} → List OutputFile → Result T WriteStop → NameSet → NameSet
    → Type 0
FinishesFiles wanted (Ok done) old new = new ≡ after_finishing wanted old
FinishesFiles wanted (Err stop) old new = LeavesOne wanted stop old new

-- ---- the counts

-- where the file has the name of its output, the counts show the stop
abbrev pub FileCounts : OutputFile → WriteStop → Faults → Faults → Type 0
FileCounts file stop before now = (names : FileNames) → IsNamed names file
    → CountsShow names (write_outcome stop) before now

-- where the files have the names of their outputs, the counts show the stop
abbrev pub FilesCounts : List OutputFile → WriteStop → Faults → Faults → Type 0
FilesCounts wanted stop before now = (names : FileNames) → All (IsNamed names) wanted
    → CountsShow names (write_outcome stop) before now

-- the outcomes of a delivery
abbrev pub IsDeliveryEnd : Outcome → Type 0
IsDeliveryEnd Done = ⊤
IsDeliveryEnd (Usage fault) = ⊥
IsDeliveryEnd (Refused refusal) = ⊥
IsDeliveryEnd (ReadFault input) = ⊥
IsDeliveryEnd (WriteFault output) = ⊤
IsDeliveryEnd NoMemory = ⊤
