-- What cells may keep of their points, by its names.
use Rattle.std.specs.Prelude.{ℕ, Bool, if◌then◌else◌, List, codes, Option, Some, None, is_some}
use Rattle.std.specs.Str.{bytes_eq}
use Rattle.sgm_grid.specs.declared.keep.Keep.{Keep}
use Rattle.sgm_grid.specs.declared.keep.Keep.TheVariants.{Highest, Mean}

-- what that name says
abbrev pub keep_named : List ℕ → Option Keep
keep_named name =
    if bytes_eq name (codes "highest") then Some Highest
    else if bytes_eq name (codes "mean") then Some Mean
    else None

abbrev pub is_keep : List ℕ → Bool
is_keep name = is_some (keep_named name)
