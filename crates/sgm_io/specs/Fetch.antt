-- What a fetch answers.
use Rattle.std.specs.Prelude.{◌≡◌, ℕ, ◌<◌, ⊤, List, length, Result, Ok, Err, Option, None, Some}
use Rattle.sgm_io.specs.declared.shelf.FetchError.{FetchError}
use Rattle.sgm_io.specs.declared.shelf.FetchError.TheVariants.{Failed, TooLong, NoMemory}
use Rattle.sgm_io.specs.Counts.{Counts, NoneFell, RoseAt, one_more}

-- more than `most` bytes are held
abbrev pub IsAbove : ℕ → Option (List ℕ) → Type 0
IsAbove most None = ⊥
IsAbove most (Some bytes) = most < length bytes

-- where the shelf tells its bytes: those that are held, or that there are too many
abbrev pub Fetches : ℕ → Option (List ℕ) → Result (Unit {0}) FetchError → List ℕ → Type 0
Fetches most held (Ok done) into = held ≡ Some into
Fetches most held (Err TooLong) into = IsAbove most held
Fetches most held (Err Failed) into = ⊤
Fetches most held (Err NoMemory) into = ⊤

-- the counts of read faults: that of the name rose where the fetch failed; else each is as it was
abbrev pub FetchReads : List ℕ → Result (Unit {0}) FetchError → Counts → Counts → Type 0
FetchReads name (Ok done) before now = now ≡ before
FetchReads name (Err TooLong) before now = now ≡ before
FetchReads name (Err NoMemory) before now = now ≡ before
FetchReads name (Err Failed) before now = RoseAt name before now

-- the counts of write faults: each is as it was, but where the fetch failed they may have risen
abbrev pub FetchWrites : Result (Unit {0}) FetchError → Counts → Counts → Type 0
FetchWrites (Ok done) before now = now ≡ before
FetchWrites (Err TooLong) before now = now ≡ before
FetchWrites (Err NoMemory) before now = now ≡ before
FetchWrites (Err Failed) before now = NoneFell before now

-- exactly: that of the name is one more where the fetch failed
abbrev pub FetchCounts : List ℕ → Result (Unit {0}) FetchError → Counts → Counts → Type 0
FetchCounts name (Ok done) before now = now ≡ before
FetchCounts name (Err TooLong) before now = now ≡ before
FetchCounts name (Err NoMemory) before now = now ≡ before
FetchCounts name (Err Failed) before now = now ≡ one_more name before
