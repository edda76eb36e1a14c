-- Calls of a shelf, and the trips that fail them.
use Rattle.std.specs.Prelude.{ℕ, Bool, List}
use Rattle.sgm_io.specs.declared.trip.Trip.{Trip}
use Rattle.sgm_io.specs.declared.trip.Call.{Call}
use Rattle.sgm_io.specs.declared.trip.Call.TheVariants.{Fetch, Create, Append, Finish}
use Rattle.sgm_io.specs.Counts.{Counts, one_more}
use Rattle.sgm_io.specs.Trips.{is_fetch_of, is_create_of, is_append_at, is_finish_of}

-- whether a trip fails this call
abbrev pub fails : Call → Trip → Bool
fails (Fetch name) = is_fetch_of name.now
fails (Create name) = is_create_of name.now
fails (Append name at) = is_append_at name.now at
fails (Finish name) = is_finish_of name.now

-- the name that it is of
abbrev pub call_name : Call → List ℕ
call_name (Fetch name) = name.now
call_name (Create name) = name.now
call_name (Append name at) = name.now
call_name (Finish name) = name.now

-- the counts of faults of reading once this call has failed
abbrev pub reads_after : Call → Counts → Counts
reads_after (Fetch name) reads = one_more name.now reads
reads_after (Create name) reads = reads
reads_after (Append name at) reads = reads
reads_after (Finish name) reads = reads

-- the counts of faults of writing once this call has failed
abbrev pub writes_after : Call → Counts → Counts
writes_after (Fetch name) writes = writes
writes_after (Create name) writes = one_more name.now writes
writes_after (Append name at) writes = one_more name.now writes
writes_after (Finish name) writes = one_more name.now writes
