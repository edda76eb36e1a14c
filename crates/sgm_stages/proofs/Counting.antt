-- What the counts show, from one stage to the next.
use Rattle.std.proofs.Common.{◌≡◌, ℕ, List, subst}
use Rattle.sgm_io.specs.Held.{Held}
use Rattle.sgm_io.specs.Counts.{Counts}
use Rattle.sgm_words.specs.Operands.{FileNames}
use Rattle.sgm_words.specs.declared.files.Input.{Input}
use Rattle.sgm_outcome.specs.declared.outcome.Outcome.{Outcome}
use Rattle.sgm_stages.specs.Ends.{Faults, faults, SameFaults, CountsShow, ShownBy}
use Rattle.sgm_stages.specs.Stops.{texts_outcome}
use Rattle.sgm_stages.specs.Verdict.{Verdict, fetched}
use Rattle.sgm_stages.specs.declared.stops.TextsError.{TextsError}
use Rattle.sgm_stages.specs.declared.stops.TextsError.TheVariants.{Refused, NoMemory}

-- counts that didn't change before a stage
pub counts_since : (names : FileNames) (outcome : Outcome) (reads writes : Counts) (out : ℕ) (reads' writes' : Counts) (now : Faults) → (reads' ≡ reads) × (writes' ≡ writes) → CountsShow names outcome (faults reads' writes' out) now
    → CountsShow names outcome (faults reads writes out) now
counts_since names outcome reads writes out reads' writes' now same counts =
    let P : Counts → Type 0 = λ r. CountsShow names outcome (faults r writes' out) now in
    let Q : Counts → Type 0 = λ w. CountsShow names outcome (faults reads w out) now in
    subst Q same.1 (subst P same.0 counts)

-- a stop of judging changes none
pub texts_counts : (names : FileNames) (stop : TextsError) (before now : Faults) → SameFaults before now → CountsShow names (texts_outcome stop) before now
texts_counts names (Refused refusal) before now same = same
texts_counts names NoMemory before now same = same

-- an input that is fetched under a name
pub goes_by : (i : Input) (held : Held) (a b : List ℕ) (next : Verdict) → a ≡ b → fetched i (held a) next ≡ next → fetched i (held b) next ≡ next
goes_by i held a b next same is = let P : List ℕ → Type 0 = λ n. fetched i (held n) next ≡ next in subst P same is

pub shown_by : (i : Input) (held : Held) (a b : List ℕ) (next : Verdict) (outcome : Outcome) → a ≡ b → ShownBy (fetched i (held a) next) outcome → ShownBy (fetched i (held b) next) outcome
shown_by i held a b next outcome same is = let P : List ℕ → Type 0 = λ n. ShownBy (fetched i (held n) next) outcome in subst P same is
