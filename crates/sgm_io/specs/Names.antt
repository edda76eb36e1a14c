-- Lists of names, as counts and as sets.
use Rattle.std.specs.Prelude.{ℕ, Bool, List, String, string_bytes, count_by}
use Rattle.std.specs.List.{list_any}
use Rattle.std.specs.Str.{bytes_eq}
use Rattle.std.specs.declared.alloc.Global.{Global}

-- how often a name stands in the list
abbrev pub times_in : List (String Global) → List ℕ → ℕ
times_in names name = count_by (λ other. bytes_eq name (string_bytes other)) names

-- whether it stands there
abbrev pub is_among : List (String Global) → List ℕ → Bool
is_among names name = list_any (λ other. bytes_eq name (string_bytes other)) names
