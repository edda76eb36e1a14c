-- What the outcome must be where no count of faults stands in the way.
use Rattle.std.specs.Prelude.{◌≡◌, ◌≢◌, ◌⊎◌, ⊤, ℕ, List, Option, Contains, Result, Ok, Err}
use Rattle.sgm_io.specs.Held.{Held}
use Rattle.sgm_io.specs.Counts.{Counts, Rose}
use Rattle.sgm_words.specs.Operands.{FileNames, IsInputName}
use Rattle.sgm_words.specs.declared.usage.UsageFault.{UsageFault}
use Rattle.sgm_words.specs.declared.options.Options.{Options}
use Rattle.sgm_words.specs.declared.files.Input.{Input}
use Rattle.sgm_words.specs.declared.files.Output.TheVariants.{Summary}
use Rattle.sgm_outcome.specs.declared.outcome.Refusal.{Refusal}
use Rattle.sgm_outcome.specs.declared.outcome.Outcome.{Outcome}
use Rattle.sgm_outcome.specs.declared.outcome.Outcome.TheVariants.{Done, Usage, Refused, ReadFault}
use Rattle.sgm_outcome.specs.declared.outcome.Outcome.TheVariants.{WriteFault, NoMemory}
use Rattle.sgm_stages.specs.Outputs.{OutputFile}
use Rattle.sgm_stages.specs.Verdict.{Verdict, absent, refused, IsFiles, outputs_of}
use Rattle.sgm_stages.specs.Ends.{Faults, run_names}

-- no count of reading an input's name rose
abbrev pub NoReadRose : FileNames → Faults → Faults → Type 0
NoReadRose names before now = (input : Input) (name : List ℕ) → IsInputName names input name
    → Rose (before.reads name) (now.reads name) → ⊥

-- no count of reading an input's name rose, but perhaps that of this input's
abbrev pub OnlyReadRose : FileNames → Input → Faults → Faults → Type 0
OnlyReadRose names input before now = (other : Input) (mine name : List ℕ)
    → IsInputName names input mine → IsInputName names other name → name ≢ mine
    → Rose (before.reads name) (now.reads name) → ⊥

-- no count of writing a file of the verdict rose, nor that of `out`
pub record NoWriteRose (verdict : Verdict) (before now : Faults) : Type 0 where
  pub file : (file : OutputFile) → Contains (outputs_of verdict) file
      → Rose (before.writes file.name) (now.writes file.name) → ⊥
  pub out : Rose before.out now.out → ⊥

-- the outcome is this one, or there was no memory
abbrev pub IsUnlessMemory : Outcome → Outcome → Type 0
IsUnlessMemory outcome wanted = (outcome ≡ wanted) ⊎ (outcome ≡ NoMemory)

pub record IsComplete (names : FileNames) (verdict : Verdict) (outcome : Outcome)
    (before now : Faults) : Type 0 where
  -- files that can be read and written are
  pub files : IsFiles verdict → NoReadRose names before now → NoWriteRose verdict before now
      → IsUnlessMemory outcome Done
  -- inputs that can be read are refused for what they hold
  pub refused_for : (refusal : Refusal) → verdict ≡ refused refusal → NoReadRose names before now
      → IsUnlessMemory outcome (Refused refusal)
  -- an absent input is a fault of reading
  pub absent_one : (input : Input) → verdict ≡ absent input
      → ((at : Input) × (outcome ≡ ReadFault at)) ⊎ (outcome ≡ NoMemory)
  -- of that input, where the count of no other input's name rose
  pub absent_only : (input : Input) → verdict ≡ absent input → OnlyReadRose names input before now
      → IsUnlessMemory outcome (ReadFault input)

-- over the words, whose faults have a clause of their own
abbrev pub RunComplete : Result Options UsageFault → List (List ℕ) → Option Held → Verdict → Outcome
    → Faults → Faults → Type 0
RunComplete (Err fault) words told verdict outcome before now = ⊤
RunComplete (Ok options) words told verdict outcome before now =
    IsComplete (run_names options words told) verdict outcome before now

-- no fault of reading, and none of writing a file
abbrev pub IsNoFileFault : Outcome → Type 0
IsNoFileFault (ReadFault input) = ⊥
IsNoFileFault (WriteFault output) = output ≡ Summary
IsNoFileFault Done = ⊤
IsNoFileFault (Usage fault) = ⊤
IsNoFileFault (Refused refusal) = ⊤
IsNoFileFault NoMemory = ⊤

-- no count of these names rose
abbrev pub NoneRose : Counts → Counts → Type 0
NoneRose before now = (name : List ℕ) → Rose (before name) (now name) → ⊥
