-- Entries that would overwrite one another's files.
use Rattle.std.specs.Prelude.{ℕ, List, [], ◌∷◌, ◌++◌, Bool, false, ◌||◌, codes, find, length, take}
use Rattle.std.specs.Prelude.{Option, slice_get}
use Rattle.std.specs.List.{list_any, range_with_len}
use Rattle.std.specs.Option.{option_map_or}
use Rattle.std.specs.Str.{bytes_eq}
use Rattle.sgm_list.specs.Entries.{EntryNames}

-- what follows OUT in the names of the outputs
abbrev pub endings : List (List ℕ)
endings = codes ".pgm" ∷ codes ".asc" ∷ codes ".csv" ∷ []

-- the name is that of an output of the entry
abbrev pub is_output_of : EntryNames → List ℕ → Bool
is_output_of entry name = list_any (λ ending. bytes_eq name (entry.out ++ ending)) endings

-- or of one of the entries
abbrev pub is_output : List EntryNames → List ℕ → Bool
is_output entries name = list_any (λ entry. is_output_of entry name) entries

-- an input of the entry is an output of one of the entries
abbrev pub overwrites : List EntryNames → EntryNames → Bool
overwrites entries entry =
    is_output entries entry.left
    || (is_output entries entry.right || option_map_or (is_output entries) entry.calib false)

-- OUT is that of one of the first so many entries
abbrev pub repeats : List EntryNames → ℕ → List ℕ → Bool
repeats entries before out = list_any (λ earlier. bytes_eq out earlier.out) (take before entries)

-- the entry at that place among the entries of the list of this name clashes
abbrev pub clashes_at : List ℕ → List EntryNames → ℕ → EntryNames → Bool
clashes_at list entries place entry = repeats entries place entry.out
    || (overwrites entries entry || is_output_of entry list)

abbrev pub clashes : List ℕ → List EntryNames → ℕ → Bool
clashes list entries place = option_map_or (clashes_at list entries place)
    (slice_get entries place) false

-- the first one that does, counted from 0
abbrev pub first_clash : List ℕ → List EntryNames → Option ℕ
first_clash list entries = find (clashes list entries) (range_with_len 0 (length entries))
