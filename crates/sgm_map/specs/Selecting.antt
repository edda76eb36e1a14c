-- What is found of a strip.
use Rattle.std.specs.Prelude.{◌≡◌, ℕ, List, Option}
use Rattle.sgm_base.specs.Values.{Values}
use Rattle.sgm_strip.specs.Cuts.{CutParts}
use Rattle.sgm_strip.specs.Scenes.{SceneParts, problem_of}
use Rattle.sgm_strip.specs.Parcels.{ParcelParts}
use Rattle.sgm_strip.specs.Strips.{AreStrips}
use Rattle.sgm_select.specs.Selection.{disparities_of}
use Rattle.sgm_select.specs.Strips.{rows_of_strip}

-- the disparities of the rows of a strip, of whatever cut the parcels are
pub record AreSelected (scene : SceneParts) (left right : Values) (parcels : List ParcelParts)
    (strip : ℕ) (rows : List (Option ℕ)) : Type 0 where
  pub each : (cut : CutParts) → AreStrips scene cut parcels → rows ≡ rows_of_strip
      (disparities_of (problem_of scene) left right scene.span.first) cut strip
