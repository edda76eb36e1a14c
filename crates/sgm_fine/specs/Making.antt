-- The map that is made finer where that is asked for.
use Rattle.std.specs.Prelude.{Bool, if◌then◌else◌}
use Rattle.sgm_base.specs.Disparities.{Disparities}
use Rattle.sgm_base.specs.Values.{Values}
use Rattle.sgm_fine.specs.Finer.{finer}
use Rattle.sgm_fine.specs.Means.{means}

-- the means of the finer values, where they are asked for, and otherwise the map as it is
abbrev pub made_finer : Bool → Values → Values → Values → Disparities → Values
made_finer fine left right map span = if fine then means (finer left right map span) else map
