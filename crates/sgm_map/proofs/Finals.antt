-- What refining keeps of a map, and the refined map of a scene.
use Rattle.std.proofs.Common.{◌≡◌, ℕ, ◌*◌, ◌<◌, ◌≤◌, Bool, true, false, length, refl, ap, ◌∙◌, arith}
use Rattle.sgm_base.specs.Disparities.{Disparities}
use Rattle.sgm_base.specs.Values.{Values, AtMost}
use Rattle.sgm_base.specs.declared.limits.TheConstants.{MAX_COUNT, MAX_DISPARITY}
use Rattle.sgm_census.proofs.CodeLists.{length-row_by_row}
use Rattle.sgm_energy.specs.Rays.{Problem}
use Rattle.sgm_select.proofs.Greatest.{rows_low}
use Rattle.sgm_fine.specs.Making.{made_finer}
use Rattle.sgm_fine.proofs.FinerBounds.{made_low}
use Rattle.sgm_refine.proofs.Bounds.{refined_most}
use Rattle.sgm_select.proofs.Strips.{full_map}
use Rattle.sgm_strip.specs.Scenes.{SceneParts, problem_of}
use Rattle.sgm_select.specs.Selection.{disparities_of, matches_of}
use Rattle.sgm_base.specs.Refining.{Refining}
use Rattle.sgm_refine.specs.Refined.{refined}
use Rattle.sgm_refine.specs.Segments.{kept}
use Rattle.sgm_map.specs.Maps.{made_disparities, refined_disparities}

pub kept_width : (map : Values) (least : ℕ) → (kept map least).width ≡ map.width
unfolding kept
kept_width map least = refl

pub kept_height : (map : Values) (least : ℕ) → (kept map least).height ≡ map.height
unfolding kept
kept_height map least = refl

-- the map of a scene's disparities, made finer where that is asked for, by that of the disparities
pub made_of : (scene : SceneParts) (left right map finer : Values) (fine : Bool)
    → map ≡ disparities_of (problem_of scene) left right scene.span.first → finer ≡ made_finer fine left right map scene.span
    → finer ≡ made_disparities (problem_of scene) left right scene.span fine
made_of scene left right map finer fine e f = f ∙ ap (λ m. made_finer fine left right m scene.span) e

-- and its sides are the scene's
pub made_width : (g : Problem) (left right : Values) (span : Disparities) (fine : Bool) → (made_disparities g left right span fine).width ≡ g.width
made_width g left right span true = refl
made_width g left right span false = refl

pub made_height : (g : Problem) (left right : Values) (span : Disparities) (fine : Bool) → (made_disparities g left right span fine).height ≡ g.height
made_height g left right span true = refl
made_height g left right span false = refl

-- the refined map of a scene, by that map
pub final_of : (scene : SceneParts) (left right map found : Values) (fine : Bool) (refine : Refining)
    → map ≡ made_disparities (problem_of scene) left right scene.span fine
    → found ≡ refined map (matches_of (problem_of scene) scene.span.first) left scene.span.first scene.span.count refine
    → found ≡ refined_disparities (problem_of scene) left right scene.span fine refine
final_of scene left right map found fine refine e f =
    f ∙ ap (λ m. refined m (matches_of (problem_of scene) scene.span.first) left scene.span.first scene.span.count refine) e

-- and no disparity of it is above the greatest
pub final_low : (g : Problem) (left right : Values) (span : Disparities) (fine : Bool) (refine : Refining) → 0 < g.count → g.count ≤ MAX_COUNT → span.count ≤ MAX_COUNT
    → AtMost MAX_DISPARITY (refined_disparities g left right span fine refine).entries
final_low g left right span fine refine some few count =
    refined_most (made_disparities g left right span fine) (matches_of g span.first) left span.first span.count MAX_DISPARITY refine
    (made_low fine left right (disparities_of g left right span.first) span MAX_DISPARITY (omega (arith, count)) (rows_low g left right span.first some few))

-- the disparities of two planes are a map
pub are_full : (g : Problem) (left right : Values) (span : Disparities) (fine : Bool)
    → length (made_disparities g left right span fine).entries ≡ (made_disparities g left right span fine).width * (made_disparities g left right span fine).height
are_full g left right span true = length-row_by_row g.width g.height _
are_full g left right span false = full_map g left right span.first
