-- What contracts see of a sink in memory.
use Rattle.std.specs.Prelude.{◌≡◌, ℕ, ◌+◌, ◌-◌, ◌^◌, min, ◌==◌, ◌||◌, Bool, false, if◌then◌else◌}
use Rattle.std.specs.Prelude.{List, Option, None, Some, Result, Ok, Err}
use Rattle.std.specs.Option.{option_map_or}
use Rattle.sgm_io.specs.declared.memory_sink.MemorySink.{MemorySink}
use Rattle.sgm_io.specs.declared.sink.SinkError.{SinkError}

-- the bytes that the sink has taken
abbrev pub taken_by : MemorySink → List ℕ
taken_by sink = sink.bytes.items

-- how many bytes it may have
abbrev pub room_of : MemorySink → ℕ
room_of sink = sink.room

-- the length at which it is to fail once, where that is left
abbrev pub trip_of : MemorySink → Option ℕ
trip_of sink = sink.trip

-- how often it has failed
abbrev pub faults_of : MemorySink → ℕ
faults_of sink = sink.faults

-- whether it stops at this length: its room is full, or its trip stands there
abbrev pub stops_in : MemorySink → ℕ → Bool
stops_in sink length =
    (length == room_of sink) || option_map_or (λ stop. length == stop) (trip_of sink) false

-- the trip that is left after a failure at this length
abbrev pub trip_after : ℕ → Option ℕ → Option ℕ
trip_after length None = None
trip_after length (Some stop) = if length == stop then None else Some stop

-- one more, up to the last value
abbrev pub one_fault_more : ℕ → ℕ
one_fault_more faults = min (faults + 1) (2 ^ 64 - 1)

-- the count is one more where the write failed, and else as it was
abbrev pub CountsFailure : Result ℕ SinkError → ℕ → ℕ → Type 0
CountsFailure (Ok count) before now = now ≡ before
CountsFailure (Err error) before now = now ≡ one_fault_more before

-- a failure at its length spends the trip
abbrev pub SpendsTrip : Result ℕ SinkError → ℕ → Option ℕ → Option ℕ → Type 0
SpendsTrip (Ok count) length old new = new ≡ old
SpendsTrip (Err error) length old new = new ≡ trip_after length old
