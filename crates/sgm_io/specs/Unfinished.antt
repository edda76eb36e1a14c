-- The names that were begun and not finished, as a set.
use Rattle.std.specs.Prelude.{ℕ, List, Bool, true, false, if◌then◌else◌}
use Rattle.std.specs.Str.{bytes_eq}

-- a set of names, as a test
abbrev pub NameSet : Type 0
NameSet = List ℕ → Bool

-- the set of no name
abbrev pub no_names : NameSet
no_names name = false

-- this name, and those of the set
unfoldable pub with_name : List ℕ → NameSet → NameSet
with_name name names other = if bytes_eq other name then true else names other

-- those of the set but this name
unfoldable pub without_name : List ℕ → NameSet → NameSet
without_name name names other = if bytes_eq other name then false else names other
