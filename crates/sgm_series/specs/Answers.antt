-- What is made for an entry, before its turn. No public clause speaks of this.
use Rattle.std.specs.Prelude.{◌≡◌, ⊤, ℕ, List, length, Some, slice_get, Result, Ok, Err}
use Rattle.sgm_io.specs.Held.{Held}
use Rattle.sgm_list.specs.Entries.{EntryNames}
use Rattle.sgm_stages.specs.Made.{texts_in}
use Rattle.sgm_stages.specs.Outputs.{files_of}
use Rattle.sgm_stages.specs.Verdict.{Verdict, files, refused}
use Rattle.sgm_stages.specs.declared.made.MadeTexts.{MadeTexts}
use Rattle.sgm_stages.specs.declared.stops.TextsError.{TextsError}
use Rattle.sgm_stages.specs.declared.stops.TextsError.TheVariants.{Refused, NoMemory}
use Rattle.sgm_series.specs.Plans.{EntryCallsFor}

-- the files of the texts that were made, under this OUT, and their summary
abbrev pub verdict_made : List ℕ → MadeTexts → Verdict
verdict_made out texts = files (files_of out (texts_in texts)) (texts_in texts).summary

-- the verdict of an entry with this OUT is what was made: its texts, or its refusal; there may have
-- been no memory
abbrev pub Answers : List ℕ → Verdict → Result MadeTexts TextsError → Type 0
Answers out v (Ok texts) = v ≡ verdict_made out texts
Answers out v (Err (Refused refusal)) = v ≡ refused refusal
Answers out v (Err NoMemory) = ⊤

-- it is the answer of the entry, whatever verdict the held files call for
abbrev pub IsAnswerOf : EntryNames → Held → Result MadeTexts TextsError → Type 0
IsAnswerOf entry held made = (v : Verdict) → EntryCallsFor entry held v → Answers entry.out v made

-- the answers of the entries, in order
pub record AreAnswers (entries : List EntryNames) (held : Held)
    (answers : List (Result MadeTexts TextsError)) : Type 0 where
  pub count : length answers ≡ length entries
  pub each : (place : ℕ) (entry : EntryNames) (made : Result MadeTexts TextsError)
      → slice_get entries place ≡ Some entry → slice_get answers place ≡ Some made
      → IsAnswerOf entry held made

-- these are the verdicts of the entries with these answers, one for each
pub record AreAnswered (entries : List EntryNames) (answers : List (Result MadeTexts TextsError))
    (verdicts : List Verdict) : Type 0 where
  pub count : length verdicts ≡ length entries
  pub each : (place : ℕ) (entry : EntryNames) (made : Result MadeTexts TextsError) (v : Verdict)
      → slice_get entries place ≡ Some entry → slice_get answers place ≡ Some made
      → slice_get verdicts place ≡ Some v → Answers entry.out v made
