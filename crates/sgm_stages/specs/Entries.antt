-- Adding the entries of a list to a merge.
use Rattle.std.specs.Prelude.{◌≡◌, ⊤, ℕ, ◌+◌, List, fold, slice_get, Option, Some, Result, Ok, Err}
use Rattle.sgm_grid.specs.Cells.{Cells}
use Rattle.sgm_io.specs.Held.{Held}
use Rattle.sgm_merge.specs.Merging.{Merging, with_entry}
use Rattle.sgm_words.specs.Operands.{FileNames, IsInputName}
use Rattle.sgm_words.specs.declared.files.Input.TheVariants as input
use Rattle.sgm_outcome.specs.declared.outcome.Outcome.{Outcome}
use Rattle.sgm_outcome.specs.declared.outcome.Outcome.TheVariants.{Done, Usage, Refused, ReadFault}
use Rattle.sgm_outcome.specs.declared.outcome.Outcome.TheVariants.{WriteFault, NoMemory}
use Rattle.sgm_stages.specs.Ends.{NoneBefore, ShownBy}
use Rattle.sgm_stages.specs.Made.{merge_texts_in}
use Rattle.sgm_stages.specs.Merging.{MergePlan}
use Rattle.sgm_stages.specs.Outputs.{merge_files_of}
use Rattle.sgm_stages.specs.Verdict.{Verdict, files, entry_fetched, entries_fetched, merged_by}
use Rattle.sgm_stages.specs.declared.merge_plan.MergeTexts.{MergeTexts}

-- the entries with these names are asked for under them
abbrev pub HaveEntries : List (List ℕ) → FileNames → Type 0
HaveEntries names known =
    (k : ℕ) (name : List ℕ) → slice_get names k ≡ Some name → IsInputName known (input.Grid k) name

-- none of the first inputs is absent, and nothing is refused, whatever comes
abbrev pub NoneEver : {X : Type 0} → (X → Verdict) → Type 0
NoneEver {X} next = (n : ℕ) (x : X) → NoneBefore n (next x)

-- the grid of an entry was added, and the verdict goes on with it; or the outcome is shown by the
-- verdict
abbrev pub AddsEntry : {T : Type 0} → Merging → ℕ → Option (List ℕ) → Result T Outcome → Merging
    → Type 0
AddsEntry old k held (Ok done) new =
    (entry : Cells) × (new ≡ with_entry old entry)
    × ((next : Cells → Verdict) → entry_fetched old.spec k held next ≡ next entry)
AddsEntry old k held (Err outcome) new =
    (next : Cells → Verdict) → ((entry : Cells) → NoneBefore (k + 7) (next entry))
    → ShownBy (entry_fetched old.spec k held next) outcome

-- the same of the entries with these names, the first of which has this number
abbrev pub AddsEntries : {T : Type 0} → Merging → ℕ → List (List ℕ) → Held → Result T Outcome
    → Merging → Type 0
AddsEntries old k names held (Ok done) new =
    (entries : List Cells) × (new ≡ fold with_entry old entries)
    × ((next : List Cells → Verdict) → entries_fetched old.spec k names held next ≡ next entries)
AddsEntries old k names held (Err outcome) new =
    (next : List Cells → Verdict) → NoneEver next
    → ShownBy (entries_fetched old.spec k names held next) outcome

-- one grid was added, or none
abbrev pub AddsOne : {T : Type 0} → Merging → Result T Outcome → Merging → Type 0
AddsOne old (Ok done) new = (entry : Cells) × (new ≡ with_entry old entry)
AddsOne old (Err outcome) new = new ≡ old

-- the outcomes of a run that ends before it writes
abbrev pub IsEarly : Outcome → Type 0
IsEarly Done = ⊥
IsEarly (Usage fault) = ⊥
IsEarly (Refused refusal) = ⊤
IsEarly (ReadFault input) = ⊤
IsEarly (WriteFault output) = ⊥
IsEarly NoMemory = ⊤

abbrev pub EndsEarly : {T : Type 0} → Result T Outcome → Type 0
EndsEarly (Ok done) = ⊤
EndsEarly (Err outcome) = IsEarly outcome

-- the texts of the entries of a plan were made, and the verdict is their files; or the outcome is
-- shown by the verdict
abbrev pub MakesTexts : MergePlan → Held → Result MergeTexts Outcome → Type 0
MakesTexts plan held (Ok made) =
    (out : List ℕ) → entries_fetched plan.spec 0 plan.names held (merged_by out plan)
    ≡ files (merge_files_of out (merge_texts_in made)) (merge_texts_in made).summary
MakesTexts plan held (Err outcome) =
    (out : List ℕ)
    → ShownBy (entries_fetched plan.spec 0 plan.names held (merged_by out plan)) outcome
