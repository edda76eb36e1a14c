-- A batch as it is fetched: the inputs of its entries, before anything is made of them. No public
-- clause speaks of this.
use Rattle.std.specs.Prelude.{◌≡◌, ⊤, ℕ, List, [], ◌∷◌, ◌++◌, length, Some, slice_get, Result, Ok}
use Rattle.std.specs.Prelude.{Err, ◌<◌, ◌≤◌, All}
use Rattle.sgm_io.specs.Held.{Held}
use Rattle.sgm_list.specs.Entries.{EntryNames}
use Rattle.sgm_outcome.specs.declared.outcome.Outcome.TheVariants as run
use Rattle.sgm_outcome.specs.declared.outcome.Refusal.{Refusal}
use Rattle.sgm_stages.specs.Ends.{Faults, SameFaults, CountsShow, NoneBefore, order_of}
use Rattle.sgm_stages.specs.Inputs.{InputBytes}
use Rattle.sgm_stages.specs.Verdict.{Verdict}
use Rattle.sgm_stages.specs.declared.made.MadeTexts.{MadeTexts}
use Rattle.sgm_stages.specs.declared.stops.TextsError.{TextsError}
use Rattle.sgm_stages.specs.declared.stops.TextsError.TheVariants.{Refused}
use Rattle.sgm_stages.specs.declared.stops.TextsError.TheVariants as texts
use Rattle.sgm_batch.specs.Pieces.{IsMadeOf}
use Rattle.sgm_series.specs.Plans.{EntryCallsFor, IsJudged, names_for}
use Rattle.sgm_series.specs.Answers.{IsAnswerOf}
use Rattle.sgm_series.specs.declared.making.Batch.{Batch}
use Rattle.sgm_series.specs.declared.making.BatchStop.{BatchStop}
use Rattle.sgm_series.specs.declared.making.BatchStop.TheVariants.{Unread, NoMemory}

-- what is made of these inputs is the entry's answer
abbrev pub AreInputsOf : EntryNames → Held → InputBytes → Type 0
AreInputsOf entry held inputs = (made : Result MadeTexts TextsError) → IsMadeOf inputs made
    → IsAnswerOf entry held made

-- an entry as it was fetched: its inputs, or the refusal of one that is too long
abbrev pub IsFetched : EntryNames → Held → Result InputBytes Refusal → Type 0
IsFetched entry held (Ok inputs) = AreInputsOf entry held inputs
IsFetched entry held (Err refusal) = IsAnswerOf entry held (Err (Refused refusal))

-- the entry's inputs can be read, as far as they are asked for
abbrev pub IsReadable : EntryNames → Held → Type 0
IsReadable entry held = (v : Verdict) → EntryCallsFor entry held v → IsJudged v

-- each of the inputs is that of the entry at its place
abbrev pub AreInputsAt : List EntryNames → Held → List ℕ → List InputBytes → Type 0
AreInputsAt entries held places inputs = (number place : ℕ) (entry : EntryNames)
    (input : InputBytes)
    → slice_get places number ≡ Some place → slice_get entries place ≡ Some entry
    → slice_get inputs number ≡ Some input
    → AreInputsOf entry held input

-- the verdict of the entry at this place shows why its inputs weren't fetched
abbrev pub PlaceShown : ℕ → Verdict → BatchStop → Type 0
PlaceShown here v (Unread place input) = (place ≡ here) × NoneBefore (order_of input) v
PlaceShown here v NoMemory = ⊤

-- and the counts show it
abbrev pub PlaceCounts : ℕ → EntryNames → BatchStop → Faults → Faults → Type 0
PlaceCounts here entry (Unread place input) before now = (place ≡ here)
    × CountsShow (names_for entry) (run.ReadFault input) before now
PlaceCounts here entry NoMemory before now = SameFaults before now

-- the batch with some places and inputs and an answer besides
pub record HasAdded (place : List ℕ) (input : List InputBytes)
    (answer : Result MadeTexts TextsError) (old new : Batch) : Type 0 where
  pub places : new.places.items ≡ old.places.items ++ place
  pub inputs : new.inputs.items ≡ old.inputs.items ++ input
  pub answers : new.answers.items ≡ old.answers.items ++ answer ∷ []

-- the batch with the entry that was fetched besides: its inputs beside its place, and want of
-- memory for the time being; or its refusal
abbrev pub HasEntry : Result InputBytes Refusal → Batch → Batch → Type 0
HasEntry (Ok inputs) old new = HasAdded (length old.answers.items ∷ []) (inputs ∷ [])
    (Err texts.NoMemory) old new
HasEntry (Err refusal) old new = HasAdded [] [] (Err (Refused refusal)) old new

-- a batch of which the first n entries are fetched
pub record IsBatch (n : ℕ) (batch : Batch) : Type 0 where
  pub count : length batch.answers.items ≡ n
  pub pairs : length batch.places.items ≡ length batch.inputs.items
  pub few : length batch.inputs.items ≤ n
  pub places : All (λ place. place < n) batch.places.items
