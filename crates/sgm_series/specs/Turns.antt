-- What the turns of the first entries write.
use Rattle.std.specs.Prelude.{◌≡◌, ◌⊎◌, ℕ, List, [], take, All, Contains}
use Rattle.std.specs.Prelude.{flat_map, slice_get, Some}
use Rattle.sgm_words.specs.declared.files.Output.{Output}
use Rattle.sgm_words.specs.declared.files.Output.TheVariants.{Summary}
use Rattle.sgm_outcome.specs.Lines.{refusal_line}
use Rattle.sgm_stages.specs.Outputs.{OutputFile}
use Rattle.sgm_stages.specs.Verdict.{Verdict, IsFiles, outputs_of, summary_of}
use Rattle.sgm_stages.specs.Verdict as verdict
use Rattle.sgm_series.specs.Plans.{IsJudged}

-- the line of a refused entry
abbrev pub line_for : Verdict → List ℕ
line_for (verdict.refused refusal) = refusal_line refusal
line_for (verdict.files outputs summary) = []
line_for (verdict.usage fault) = []
line_for (verdict.absent input) = []

-- the files of these entries, their summaries, and the lines of those that are refused, each in the
-- entries' order
abbrev pub files_for : List Verdict → List OutputFile
files_for verdicts = flat_map outputs_of verdicts

abbrev pub summaries_for : List Verdict → List ℕ
summaries_for verdicts = flat_map summary_of verdicts

abbrev pub lines_for : List Verdict → List ℕ
lines_for verdicts = flat_map line_for verdicts

-- the entry's verdict satisfies this
abbrev pub AtEntry : ℕ → List Verdict → (Verdict → Type 0) → Type 0
AtEntry entry verdicts P = (v : Verdict) × (slice_get verdicts entry ≡ Some v) × P v

-- the inputs of all entries before this one could be read
abbrev pub IsReached : ℕ → List Verdict → Type 0
IsReached entry verdicts = All IsJudged (take entry verdicts)

-- the entry's outputs are called for, this one among them
pub record HasOutput (output : Output) (v : Verdict) : Type 0 where
  pub files : IsFiles v
  pub has : (output ≡ Summary)
      ⊎ ((file : OutputFile) × Contains (outputs_of v) file × (file.output ≡ output))
