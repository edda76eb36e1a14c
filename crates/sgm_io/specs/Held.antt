-- What a shelf holds, and how a call changes it.
use Rattle.std.specs.Prelude.{◌≡◌, ℕ, ◌<◌, List, [], ◌∷◌, ◌++◌, length, All, Option, None, Some}
use Rattle.std.specs.Prelude.{IfSome, option_map, if◌then◌else◌}
use Rattle.std.specs.Option.{option_map_or}
use Rattle.std.specs.Str.{bytes_eq}

-- the bytes under each name, or none where the name is absent
abbrev pub Held : Type 0
Held = List ℕ → Option (List ℕ)

-- these bytes under this name, and every other name as before
unfoldable pub put : List ℕ → List ℕ → Held → Held
put name bytes held other = if bytes_eq other name then Some bytes else held other

-- this piece more under this name, which stays absent if it was, and every other name as before
unfoldable pub extend : List ℕ → List ℕ → Held → Held
extend name piece held other =
    if bytes_eq other name then option_map (λ bytes. bytes ++ piece) (held other) else held other

-- part is the beginning of whole, perhaps all of it
pub record IsPrefix (part whole : List ℕ) : Type 0 where
  pub rest : List ℕ
  pub is : part ++ rest ≡ whole

-- a name and the bytes under it
pub record NamedBytes : Type 0 where
  pub name : List ℕ
  pub bytes : List ℕ

-- what is held once these were put there, one after the other
abbrev pub put_all : List NamedBytes → Held → Held
put_all [] held = held
put_all (file ∷ files) held = put_all files (put file.name file.bytes held)

-- no name is held
abbrev pub no_files : Held
no_files name = None

-- every name is held, without bytes
abbrev pub empty_files : Held
empty_files name = Some []

-- these are bytes
abbrev pub AreBytes : List ℕ → Type 0
AreBytes contents = All (λ b. b < 256) contents

-- what is held are bytes
abbrev pub HoldsBytes : Held → Type 0
HoldsBytes held = (name : List ℕ) → IfSome (held name) AreBytes

-- how many bytes the name has
abbrev pub length_at : Held → List ℕ → ℕ
length_at held name = option_map_or length (held name) 0
