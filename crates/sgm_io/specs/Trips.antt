-- Trips, and the calls that they fail.
use Rattle.std.specs.Prelude.{ℕ, ◌==◌, ◌&&◌, Bool, false, if◌then◌else◌, List, [], ◌∷◌}
use Rattle.std.specs.Prelude.{string_bytes}
use Rattle.std.specs.List.{list_any}
use Rattle.std.specs.Str.{bytes_eq}
use Rattle.sgm_io.specs.declared.trip.Trip.{Trip}
use Rattle.sgm_io.specs.declared.trip.Trip.TheVariants.{Fetch, Create, AppendAt, Finish}

-- the name whose call it fails
abbrev pub trip_name : Trip → List ℕ
trip_name (Fetch name) = string_bytes name
trip_name (Create name) = string_bytes name
trip_name (AppendAt name length) = string_bytes name
trip_name (Finish name) = string_bytes name

-- whether it fails a fetch of this name
abbrev pub is_fetch_of : List ℕ → Trip → Bool
is_fetch_of name (Fetch tripped) = bytes_eq name (string_bytes tripped)
is_fetch_of name (Create tripped) = false
is_fetch_of name (AppendAt tripped length) = false
is_fetch_of name (Finish tripped) = false

-- whether it fails a create of this name
abbrev pub is_create_of : List ℕ → Trip → Bool
is_create_of name (Fetch tripped) = false
is_create_of name (Create tripped) = bytes_eq name (string_bytes tripped)
is_create_of name (AppendAt tripped length) = false
is_create_of name (Finish tripped) = false

-- whether it fails an append to this name while that has so many bytes
abbrev pub is_append_at : List ℕ → ℕ → Trip → Bool
is_append_at name at (Fetch tripped) = false
is_append_at name at (Create tripped) = false
is_append_at name at (AppendAt tripped length) =
    bytes_eq name (string_bytes tripped) && (at == length)
is_append_at name at (Finish tripped) = false

-- whether it fails a finish of this name
abbrev pub is_finish_of : List ℕ → Trip → Bool
is_finish_of name (Fetch tripped) = false
is_finish_of name (Create tripped) = false
is_finish_of name (AppendAt tripped length) = false
is_finish_of name (Finish tripped) = bytes_eq name (string_bytes tripped)

-- the trips that are left once the first of this kind is spent: all of them, where there is none
abbrev pub without_first : (Trip → Bool) → List Trip → List Trip
without_first test [] = []
without_first test (trip ∷ trips) = if test trip then trips else trip ∷ without_first test trips

-- whether one of the trips fails a fetch of this name
abbrev pub fails_fetch : List Trip → List ℕ → Bool
fails_fetch trips name = list_any (is_fetch_of name) trips

-- a create of it
abbrev pub fails_create : List Trip → List ℕ → Bool
fails_create trips name = list_any (is_create_of name) trips

-- an append to it while it has so many bytes
abbrev pub fails_append : List Trip → List ℕ → ℕ → Bool
fails_append trips name at = list_any (is_append_at name at) trips

-- a finish of it
abbrev pub fails_finish : List Trip → List ℕ → Bool
fails_finish trips name = list_any (is_finish_of name) trips
