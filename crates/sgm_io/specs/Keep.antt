-- What a call that writes to a shelf answers.
use Rattle.std.specs.Prelude.{◌≡◌, ◌⊎◌, ℕ, List, [], take, Result, Ok, Err, Option, None, Some}
use Rattle.sgm_io.specs.declared.shelf.KeepError.{KeepError}
use Rattle.sgm_io.specs.declared.shelf.KeepError.TheVariants.{Failed, NoMemory}
use Rattle.sgm_io.specs.Counts.{Counts, NoneFell, RoseAt, one_more}
use Rattle.sgm_io.specs.Held.{Held, put, extend, IsPrefix}
use Rattle.sgm_io.specs.Unfinished.{NameSet, with_name, without_name}

-- the name being written, or the empty text
abbrev pub name_of : Option (List ℕ) → List ℕ
name_of (Some name) = name
name_of None = []

-- the counts of write faults: that of the name rose where the call failed; else each is as it was
abbrev pub KeepWrites : {T : Type 0} → List ℕ → Result T KeepError → Counts → Counts → Type 0
KeepWrites name (Ok done) before now = now ≡ before
KeepWrites name (Err NoMemory) before now = now ≡ before
KeepWrites name (Err Failed) before now = RoseAt name before now

-- the counts of read faults: each is as it was, but where the call failed they may have risen
abbrev pub KeepReads : {T : Type 0} → Result T KeepError → Counts → Counts → Type 0
KeepReads (Ok done) before now = now ≡ before
KeepReads (Err NoMemory) before now = now ≡ before
KeepReads (Err Failed) before now = NoneFell before now

-- a new empty file, or where that failed maybe so
abbrev pub Creates : List ℕ → Result (Unit {0}) KeepError → Held → Held → Type 0
Creates name (Ok done) old new = new ≡ put name [] old
Creates name (Err NoMemory) old new = new ≡ old
Creates name (Err Failed) old new = (new ≡ old) ⊎ (new ≡ put name [] old)

-- the name is being written; where that failed none is
abbrev pub CreatesWriting :
    List ℕ → Result (Unit {0}) KeepError → Option (List ℕ) → Option (List ℕ) → Type 0
CreatesWriting name (Ok done) old new = new ≡ Some name
CreatesWriting name (Err NoMemory) old new = new ≡ old
CreatesWriting name (Err Failed) old new = new ≡ None

-- the bytes of the piece that were taken, or none
abbrev pub Appends : List ℕ → List ℕ → Result ℕ KeepError → Held → Held → Type 0
Appends name piece (Ok count) old new = new ≡ extend name (take count piece) old
Appends name piece (Err error) old new = new ≡ old

-- some bytes from the front of the piece were added
pub record AddsPrefix (name piece : List ℕ) (old new : Held) : Type 0 where
  pub part : List ℕ
  pub prefix : IsPrefix part piece
  pub added : new ≡ extend name part old

-- the whole piece, or where the call didn't answer Ok a part from its front
abbrev pub AppendsWhole : List ℕ → List ℕ → Result (Unit {0}) KeepError → Held → Held → Type 0
AppendsWhole name piece (Ok done) old new = new ≡ extend name piece old
AppendsWhole name piece (Err error) old new = AddsPrefix name piece old new

-- afterwards no name is being written
abbrev pub FinishesWriting : Result (Unit {0}) KeepError → Option (List ℕ) → Type 0
FinishesWriting (Ok done) new = new ≡ None
FinishesWriting (Err Failed) new = new ≡ None
FinishesWriting (Err NoMemory) new = ⊥

-- the name is begun; after an error the unfinished names are as before
abbrev pub Begins : List ℕ → Result (Unit {0}) KeepError → NameSet → NameSet → Type 0
Begins name (Ok done) old new = new ≡ with_name name old
Begins name (Err Failed) old new = new ≡ old
Begins name (Err NoMemory) old new = new ≡ old

-- the name is finished; after an error the unfinished names are as before
abbrev pub Finishes : List ℕ → Result (Unit {0}) KeepError → NameSet → NameSet → Type 0
Finishes name (Ok done) old new = new ≡ without_name name old
Finishes name (Err Failed) old new = new ≡ old
Finishes name (Err NoMemory) old new = new ≡ old

-- exactly: that of the name is one more where the call failed
abbrev pub KeepCounts : {T : Type 0} → List ℕ → Result T KeepError → Counts → Counts → Type 0
KeepCounts name (Ok done) before now = now ≡ before
KeepCounts name (Err NoMemory) before now = now ≡ before
KeepCounts name (Err Failed) before now = now ≡ one_more name before
