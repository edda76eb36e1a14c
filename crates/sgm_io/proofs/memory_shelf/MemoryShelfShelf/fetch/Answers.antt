use Rattle.std.proofs.Common.{◌≢◌, ◌∙◌, ℕ, ap, refl, subst, List, Option, String, Result, Ok, Err}
use Rattle.std.proofs.lemmas.Bool.{false≢true}
use Rattle.std.specs.declared.alloc.Global.{Global}
use Rattle.sgm_io.specs.declared.shelf.FetchError.{FetchError}
use Rattle.sgm_io.specs.declared.shelf.FetchError.TheVariants.{Failed, TooLong, NoMemory}
use Rattle.sgm_io.specs.Counts.{one_more, Counts}
use Rattle.sgm_io.specs.Fetch.{Fetches, FetchReads, FetchWrites, FetchCounts}
use Rattle.sgm_io.specs.MemoryShelf.{reads_in, writes_in}
use Rattle.sgm_io.specs.Names.{times_in}
use Rattle.sgm_io.proofs.CountLaws.{none_fell, rose_at}
use Rattle.sgm_io.proofs.memory_shelf.MemoryShelfShelf.fetch.Goals as goal

-- what holds of every answer but Failed
unless_failed : (P : Result (Unit {0}) FetchError → Type 0) (r : Result (Unit {0}) FetchError) → r ≢ Err Failed
    → ((done : Unit {0}) → P (Ok done)) → P (Err TooLong) → P (Err NoMemory) → P r
unless_failed P (Ok done) never ok long memory = ok done
unless_failed P (Err TooLong) never ok long memory = long
unless_failed P (Err NoMemory) never ok long memory = memory
unless_failed P (Err Failed) never ok long memory = absurd (never refl)

pub returns-then-trips-clause-reads : goal.returns-then-trips-clause-reads
returns-then-trips-clause-reads c = rose_at _ _ _ c.if-trips.ensures.reads

pub returns-then-trips-clause-writes : goal.returns-then-trips-clause-writes
returns-then-trips-clause-writes c = none_fell _ _ c.if-trips.ensures.writes

pub returns-in-Some-clause-bytes : goal.returns-in-Some-clause-bytes
returns-in-Some-clause-bytes c =
    let P : Option (List ℕ) → Type 0 = λ o. Fetches c.args.most o c.copy_at_most.result c.copy_at_most.new.into.items in
    subst P c.in-Some.ensures c.copy_at_most.ensures.bytes

pub returns-in-Some-clause-reads : goal.returns-in-Some-clause-reads
returns-in-Some-clause-reads c =
    let same = c.if-trips.ensures.reads in
    let now : Counts = times_in c.trips.new.self.reads.items in
    unless_failed (λ r. FetchReads c.args.name.now r (reads_in c.args.self.now) now) c.copy_at_most.result c.copy_at_most.ensures.never_fails (λ done. same) same same

pub returns-in-Some-clause-counted : goal.returns-in-Some-clause-counted
returns-in-Some-clause-counted c =
    let same = c.if-trips.ensures.reads in
    let now : Counts = times_in c.trips.new.self.reads.items in
    unless_failed (λ r. FetchCounts c.args.name.now r (reads_in c.args.self.now) now) c.copy_at_most.result c.copy_at_most.ensures.never_fails (λ done. same) same same

pub returns-in-Some-clause-writes : goal.returns-in-Some-clause-writes
returns-in-Some-clause-writes c =
    let same = c.if-trips.ensures.writes in
    let now : Counts = times_in c.trips.new.self.writes.items in
    unless_failed (λ r. FetchWrites r (writes_in c.args.self.now) now) c.copy_at_most.result c.copy_at_most.ensures.never_fails (λ done. same) same same

pub returns-in-Some-clause-tripped : goal.returns-in-Some-clause-tripped
returns-in-Some-clause-tripped c = λ yes. absurd (false≢true (c.if-trips.ensures.tripped ∙ yes))

pub returns-in-Some-clause-failed : goal.returns-in-Some-clause-failed
returns-in-Some-clause-failed c = λ is. absurd (c.copy_at_most.ensures.never_fails is)

pub returns-in-Ok-clause-reads : goal.returns-in-Ok-clause-reads
returns-in-Ok-clause-reads c =
    rose_at _ _ _ (c.in-Ok.ensures.reads ∙ ap (λ (counts : Counts). one_more c.args.name.now counts) c.if-trips.ensures.reads)

pub returns-in-Ok-clause-writes : goal.returns-in-Ok-clause-writes
returns-in-Ok-clause-writes c =
    none_fell _ _ (ap (λ (names : List (String Global)). times_in names) c.in-Ok.ensures.writes ∙ c.if-trips.ensures.writes)
