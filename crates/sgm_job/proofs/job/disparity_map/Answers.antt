use Rattle.std.proofs.Common.{◌∙◌, Bool, ap, subst}
use Rattle.sgm_base.specs.Disparities.{Disparities, IsCount}
use Rattle.sgm_base.specs.Values.{Values}
use Rattle.sgm_base.specs.declared.limits.TheConstants.{MAX_DISPARITY}
use Rattle.sgm_census.specs.Matching.{matching_problem}
use Rattle.sgm_energy.specs.Pens.{guide_of}
use Rattle.sgm_strip.specs.Scenes.{SceneParts, problem_of}
use Rattle.sgm_select.proofs.Strips.{low_from}
use Rattle.sgm_map.specs.Maps.{refined_disparities}
use Rattle.sgm_threads.proofs.Pieces.{if_ok}
use Rattle.sgm_map.proofs.Finals.{final_low}
use Rattle.sgm_job.proofs.job.disparity_map.Goals as goal

pub returns-clause-exact : goal.returns-clause-exact
returns-clause-exact g c =
    let pair = c.args.pair in
    let calib = c.args.calib.now in
    let refine = c.args.asked.refine in
    let planes = c.in_ok-planes.planes in
    let is = c.in_ok-planes.ensures in
    let problem = matching_problem pair.left.codes pair.right.codes calib.span calib.penalties (guide_of pair.left.plane pair.maxval) in
    if_ok c.scene_map.result
    (λ m e. e
    ∙ ap (λ (s : SceneParts). refined_disparities (problem_of s) planes.left planes.right s.span c.fine.result refine) is.scene
    ∙ ap (λ (v : Values). refined_disparities problem v planes.right calib.span c.fine.result refine) is.left
    ∙ ap (λ (v : Values). refined_disparities problem pair.left.plane v calib.span c.fine.result refine) is.right
    ∙ ap (λ (b : Bool). refined_disparities problem pair.left.plane pair.right.plane calib.span b refine) c.fine.ensures)
    c.scene_map.ensures

pub returns-clause-bound : goal.returns-clause-bound
returns-clause-bound g c =
    let pair = c.args.pair in
    let calib = c.args.calib.now in
    let problem = matching_problem pair.left.codes pair.right.codes calib.span calib.penalties (guide_of pair.left.plane pair.maxval) in
    let few : IsCount calib.span.count = subst (λ (s : Disparities). IsCount s.count) (c.span.view_is ∙ c.span-span.ensures) c.span.invariant.1 in
    low_from c.scene_map.result (refined_disparities problem pair.left.plane pair.right.plane calib.span calib.fine c.args.asked.refine) MAX_DISPARITY (returns-clause-exact g c)
    (final_low problem pair.left.plane pair.right.plane calib.span calib.fine c.args.asked.refine few.0 few.1 few.1)
