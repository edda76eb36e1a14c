-- Lists of named files, of which the last may be being written.
use Rattle.std.specs.Prelude.{ℕ, List, [], ◌∷◌, Bool, Option, None, Some, String, Vec}
use Rattle.std.specs.Prelude.{All, string_bytes, option_map, if◌then◌else◌}
use Rattle.std.specs.declared.alloc.Global.{Global}
use Rattle.sgm_io.specs.Held.{NamedBytes, AreBytes}

-- the name and the bytes of a pair
abbrev pub named_bytes : String Global × Vec ℕ Global → NamedBytes
named_bytes file = record { name = string_bytes file.0; bytes = file.1.items }

-- what the files have are bytes
abbrev pub HaveBytes : List NamedBytes → Type 0
HaveBytes files = All (λ file. AreBytes file.bytes) files

abbrev pub name_at : NamedBytes → List ℕ
name_at file = file.name

abbrev pub last_file : List NamedBytes → Option NamedBytes
last_file [] = None
last_file (file ∷ []) = Some file
last_file (file ∷ next ∷ files) = last_file (next ∷ files)

abbrev pub last_name : List NamedBytes → Option (List ℕ)
last_name files = option_map name_at (last_file files)

-- the file being written, where one is
abbrev pub current_of : Bool → List NamedBytes → Option NamedBytes
current_of is_open files = if is_open then last_file files else None
