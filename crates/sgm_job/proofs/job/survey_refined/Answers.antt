use Rattle.std.proofs.Common.{◌∙◌}
use Rattle.sgm_job.proofs.Surveying.{map_is, map_of_codes}
use Rattle.sgm_job.proofs.Passing.{images_pass, sides_are, fault_answered, survey_answered, survey_is}
use Rattle.sgm_job.proofs.job.survey_refined.Goals as goal

pub returns-in-Some-clause-exact : goal.returns-in-Some-clause-exact
returns-in-Some-clause-exact g c =
    let left = sides_are c.size.result c.args.left.now c.size.ensures.width c.size.ensures.height in
    let right = sides_are c.size-2.result c.args.right.now c.size-2.ensures.width c.size-2.ensures.height in
    fault_answered c.args.left.now c.args.right.now c.args.calib.now c.args.refine c.size.result c.size-2.result c.in-Some.fault left right c.in-Some.ensures

pub prepare_both-requires-clause-passes : goal.prepare_both-requires-clause-passes
prepare_both-requires-clause-passes g c κs within =
    let left = sides_are c.size.result c.args.left.now c.size.ensures.width c.size.ensures.height in
    let right = sides_are c.size-2.result c.args.right.now c.size-2.ensures.width c.size-2.ensures.height in
    images_pass c.args.left.now c.args.right.now c.args.calib.now c.size.result c.size-2.result left right
    c.in_default.ensures

pub returns-clause-exact : goal.returns-clause-exact
returns-clause-exact g c =
    let left = sides_are c.size.result c.args.left.now c.size.ensures.width c.size.ensures.height in
    let right = sides_are c.size-2.result c.args.right.now c.size-2.ensures.width c.size-2.ensures.height in
    let pair = c.in_ok-pair.pair in
    let made = c.in_ok-pair.ensures in
    survey_answered c.args.left.now c.args.right.now c.args.calib.now c.args.refine c.size.result c.size-2.result _ left right c.in_default.ensures
    (survey_is c.args.left.now c.args.right.now c.args.calib.now c.args.refine c.in_ok-disp.disp c.in_ok-ground.ground.grid _
    (c.in_ok-disp.ensures.exact
    ∙ map_of_codes pair.left.plane pair.right.plane pair.left.codes pair.right.codes c.args.calib.now pair.maxval c.args.refine made.left_made.coded made.right_made.coded
    ∙ map_is c.args.left.now c.args.right.now c.args.calib.now pair.left.plane pair.right.plane pair.maxval c.args.refine made.left_made.rectified made.right_made.rectified
    made.same_maxval)
    c.in_ok-ground.ensures.grid c.in_ok-ground.ensures.tallies)
