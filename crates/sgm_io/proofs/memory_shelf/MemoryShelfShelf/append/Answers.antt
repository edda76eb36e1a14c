use Rattle.std.proofs.Common.{◌≡◌, ◌∙◌, Bool, true, false, ap, List, option_map}
use Rattle.std.proofs.lemmas.Bool.{false_from_ne_true}
use Rattle.sgm_io.specs.declared.files.Files.{Files}
use Rattle.sgm_io.specs.declared.trip.Trip.{Trip}
use Rattle.sgm_io.specs.Filed.{current_of, name_at}
use Rattle.sgm_io.specs.Held.{length_at, put_all, no_files}
use Rattle.sgm_io.specs.Keep.{name_of}
use Rattle.sgm_io.specs.MemoryShelf.{stops_here, trips_in}
use Rattle.sgm_io.specs.Trips.{fails_append}
use Rattle.sgm_io.proofs.CountLaws.{none_fell, rose_at}
use Rattle.sgm_io.proofs.FillLaws.{FillsUpTo-some}
use Rattle.sgm_io.proofs.memory_shelf.MemoryShelfShelf.append.Goals as goal

pub returns-then-trips_append-clause-reads : goal.returns-then-trips_append-clause-reads
returns-then-trips_append-clause-reads c = none_fell _ _ c.if-trips_append.ensures.reads

pub returns-then-trips_append-clause-writes : goal.returns-then-trips_append-clause-writes
returns-then-trips_append-clause-writes c = rose_at _ _ _ c.if-trips_append.ensures.writes

-- where no trip fails this append, none does after it was asked for either
pub returns-in-Ok-clause-count : goal.returns-in-Ok-clause-count
returns-in-Ok-clause-count c = (
  c.room-count.ensures.within,
  λ some.
      let stops : Files → List Trip → Bool = λ files trips.
      let name = name_of (option_map name_at (current_of files.is_open files.files.items)) in
      fails_append trips name (length_at (put_all files.files.items no_files) name) in
      let before : stops_here c.args.self.now ≡ false = false_from_ne_true (stops_here c.args.self.now) (λ yes.
      let both : false ≡ true = c.if-trips_append.ensures.tripped.1 (some, yes) in cc) in
      let goes : stops_here c.trips_append.new.self ≡ false =
      ap (λ (files : Files). stops files (trips_in c.trips_append.new.self)) c.if-trips_append.ensures.files
      ∙ ap (λ (trips : List Trip). stops c.args.self.now.files trips) c.if-trips_append.ensures.left
      ∙ before in
      FillsUpTo-some _ _ _ _ c.room-count.ensures goes some,
)
