-- What contracts see of the file that a shelf of real files is writing.
use Rattle.std.specs.Prelude.{ℕ, List, Option, option_map, option_and_then, string_bytes}
use Rattle.sgm_io.specs.declared.disk_shelf.Open.{Open}

-- its name
abbrev pub writing_on : {F : Type 0} → Option (Open F) → Option (List ℕ)
writing_on current = option_map (λ named. string_bytes named.name) current

-- its bytes, where it tells them
abbrev pub told_by : {F : Type 0} → (F → Option (List ℕ)) → Option (Open F) → Option (List ℕ)
told_by contents current = option_and_then (λ named. contents named.file) current
