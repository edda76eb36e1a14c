-- The map of disparities of a scene: made finer where that is asked for, and refined.
use Rattle.std.specs.Prelude.{Bool}
use Rattle.sgm_base.specs.Disparities.{Disparities}
use Rattle.sgm_base.specs.Refining.{Refining}
use Rattle.sgm_base.specs.Values.{Values}
use Rattle.sgm_energy.specs.Rays.{Problem}
use Rattle.sgm_select.specs.Selection.{disparities_of, matches_of}
use Rattle.sgm_fine.specs.Making.{made_finer}
use Rattle.sgm_refine.specs.Refined.{refined}

-- the disparities of two planes, made finer where that is asked for
abbrev pub made_disparities : Problem → Values → Values → Disparities → Bool → Values
made_disparities g left right span fine =
    made_finer fine left right (disparities_of g left right span.first) span

-- the disparities of two planes, refined
abbrev pub refined_disparities : Problem → Values → Values → Disparities → Bool → Refining → Values
refined_disparities g left right span fine refine =
    refined (made_disparities g left right span fine)
    (matches_of g span.first) left span.first span.count refine
