-- Which names a run leaves begun and not finished.
use Rattle.std.specs.Prelude.{◌≡◌, ◌⊎◌, ℕ, List, true, false, Contains, None, Result, Ok, Err}
use Rattle.sgm_io.specs.Unfinished.{NameSet}
use Rattle.sgm_words.specs.Operands.{FileNames, names_of, IsOutputName}
use Rattle.sgm_words.specs.declared.files.Output.{Output}
use Rattle.sgm_words.specs.declared.options.Options.{Options}
use Rattle.sgm_words.specs.declared.usage.UsageFault.{UsageFault}
use Rattle.sgm_outcome.specs.declared.outcome.Outcome.{Outcome}
use Rattle.sgm_outcome.specs.declared.outcome.Outcome.TheVariants.{Done, Usage, Refused, ReadFault}
use Rattle.sgm_outcome.specs.declared.outcome.Outcome.TheVariants.{WriteFault, NoMemory}
use Rattle.sgm_stages.specs.Outputs.{OutputFile}

-- each of the files is finished
abbrev pub AreFinished : List OutputFile → NameSet → Type 0
AreFinished files unfinished = (file : OutputFile) → Contains files file
    → unfinished file.name ≡ false

-- A name that is unfinished now was so before, or this holds of it. A name that no output has is as
-- before.
pub record LeavesUnfinished (names : FileNames) (IsLeft : List ℕ
    → Type 0) (old new : NameSet) : Type 0 where
  pub no_more : (name : List ℕ) → new name ≡ true → (old name ≡ true) ⊎ IsLeft name
  pub others : (name : List ℕ) → ((output : Output) → ¬ IsOutputName names output name)
      → new name ≡ old name

-- which names are unfinished after an outcome: after Done no more than before; where an output was
-- not written to its end, that one too, perhaps; else those that were
abbrev pub UnfinishedStands : FileNames → Outcome → NameSet → NameSet → Type 0
UnfinishedStands names Done old new = LeavesUnfinished names (λ name. ⊥) old new
UnfinishedStands names (Usage fault) old new = new ≡ old
UnfinishedStands names (Refused refusal) old new = new ≡ old
UnfinishedStands names (ReadFault input) old new = new ≡ old
UnfinishedStands names (WriteFault output) old new =
    LeavesUnfinished names (IsOutputName names output) old new
UnfinishedStands names NoMemory old new = LeavesUnfinished names (λ name. (output : Output)
    × IsOutputName names output name) old new

-- the same over the words
abbrev pub RunUnfinished : Result Options UsageFault → List (List ℕ) → Outcome → NameSet → NameSet
    → Type 0
RunUnfinished (Err fault) words outcome old new = new ≡ old
RunUnfinished (Ok options) words outcome old new =
    UnfinishedStands (names_of options words None) outcome old new
