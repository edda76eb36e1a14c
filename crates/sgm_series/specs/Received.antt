-- What a sink has received of the lines that it was given: after its first failure nothing more is
-- given to it. No public clause speaks of this.
use Rattle.std.specs.Prelude.{◌≡◌, ℕ, ◌≤◌, List, ◌++◌, Bool, true, false}
use Rattle.sgm_io.specs.Counts.{Rose}
use Rattle.sgm_io.specs.Sink.{GrowsByPrefix}
use Rattle.sgm_outcome.specs.Lines.{TakesLine}

-- all of them; or, where writing has failed, the beginning
abbrev pub Received : Bool → List ℕ → List ℕ → List ℕ → Type 0
Received true lines start now = now ≡ start ++ lines
Received false lines start now = GrowsByPrefix lines start now

-- the count of faults is as at the start; or it rose
abbrev pub IsWhole : Bool → ℕ → ℕ → Type 0
IsWhole true start now = now ≡ start
IsWhole false start now = (start ≤ now) × Rose start now

-- Whatever lines were received since any start, those and these have been received since. Where
-- writing had failed before, that says that the sink is as it was.
abbrev pub ReceivesMore : Bool → Bool → List ℕ → List ℕ → List ℕ → Type 0
ReceivesMore before now more old new = (lines start : List ℕ) → Received before lines start old
    → Received now (lines ++ more) start new

-- the same of the count of faults
abbrev pub StaysWhole : Bool → Bool → ℕ → ℕ → Type 0
StaysWhole before now old new = (start : ℕ) → IsWhole before start old → IsWhole now start new

-- Whatever lines were received since any start, and whatever the count was then: those and the last
-- line have been received since, or, where the count rose, their beginning.
abbrev pub TakesLast : Bool → List ℕ → ℕ → ℕ → List ℕ → List ℕ → Type 0
TakesLast whole last faults faults' old new = (lines start : List ℕ) (count : ℕ)
    → IsWhole whole count faults → Received whole lines start old
    → TakesLine (lines ++ last) count faults' start new
