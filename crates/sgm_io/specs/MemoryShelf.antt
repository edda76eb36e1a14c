-- What contracts see of a shelf in memory.
use Rattle.std.specs.Prelude.{◌≡◌, ℕ, Bool, List, Option, Result, Ok, Err, option_map}
use Rattle.sgm_io.specs.declared.memory_shelf.MemoryShelf.{MemoryShelf}
use Rattle.sgm_io.specs.declared.trip.Trip.{Trip}
use Rattle.sgm_io.specs.declared.shelf.KeepError.{KeepError}
use Rattle.sgm_io.specs.declared.shelf.KeepError.TheVariants.{Failed, NoMemory}
use Rattle.sgm_io.specs.Counts.{Counts}
use Rattle.sgm_io.specs.Filed.{current_of, name_at}
use Rattle.sgm_io.specs.Held.{Held, put_all, no_files, length_at}
use Rattle.sgm_io.specs.Keep.{name_of}
use Rattle.sgm_io.specs.Names.{times_in, is_among}
use Rattle.sgm_io.specs.Trips.{is_append_at, without_first, fails_append}
use Rattle.sgm_io.specs.Unfinished.{NameSet}

-- the bytes under each name
abbrev pub held_in : MemoryShelf → Held
held_in shelf = put_all shelf.files.files.items no_files

-- the name being written
abbrev pub writing_in : MemoryShelf → Option (List ℕ)
writing_in shelf = option_map name_at (current_of shelf.files.is_open shelf.files.files.items)

-- the names that were begun and not finished
abbrev pub unfinished_in : MemoryShelf → NameSet
unfinished_in shelf = is_among shelf.files.unfinished.names.items

-- the trips that are left, in the order in which they were given
abbrev pub trips_in : MemoryShelf → List Trip
trips_in shelf = shelf.faults.left.items

-- the counts of faults of reading
abbrev pub reads_in : MemoryShelf → Counts
reads_in shelf = times_in shelf.faults.reads.items

-- and of writing
abbrev pub writes_in : MemoryShelf → Counts
writes_in shelf = times_in shelf.faults.writes.items

-- the name being written, or the empty text
abbrev pub name_in : MemoryShelf → List ℕ
name_in shelf = name_of (writing_in shelf)

-- how many bytes it has
abbrev pub length_in : MemoryShelf → ℕ
length_in shelf = length_at (held_in shelf) (name_in shelf)

-- whether a trip is left that fails an append at this length
abbrev pub stops_here : MemoryShelf → Bool
stops_here shelf = fails_append (trips_in shelf) (name_in shelf) (length_in shelf)

-- the first of these trips is spent where the append failed; else all trips are left
abbrev pub SpendsAppend : Result ℕ KeepError → MemoryShelf → MemoryShelf → Type 0
SpendsAppend (Ok count) old new = trips_in new ≡ trips_in old
SpendsAppend (Err NoMemory) old new = trips_in new ≡ trips_in old
SpendsAppend (Err Failed) old new =
    trips_in new ≡ without_first (is_append_at (name_in old) (length_in old)) (trips_in old)
