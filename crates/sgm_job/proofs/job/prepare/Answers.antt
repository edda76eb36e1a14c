use Rattle.sgm_job.specs.Answers.{matched_in}
use Rattle.sgm_job.proofs.Surveying.{matched_is}
use Rattle.sgm_job.proofs.Passing.{images_pass, sides_are, fault_prepared, scene_prepared}
use Rattle.sgm_job.proofs.job.prepare.Goals as goal

pub returns-in-Some : goal.returns-in-Some
returns-in-Some c =
    let left = sides_are c.size.result c.args.left.now c.size.ensures.width c.size.ensures.height in
    let right = sides_are c.size-2.result c.args.right.now c.size-2.ensures.width c.size-2.ensures.height in
    fault_prepared c.args.left.now c.args.right.now c.args.calib.now c.size.result c.size-2.result c.in-Some.fault left right c.in-Some.ensures

pub prepare_each-requires : goal.prepare_each-requires
prepare_each-requires c =
    let left = sides_are c.size.result c.args.left.now c.size.ensures.width c.size.ensures.height in
    let right = sides_are c.size-2.result c.args.right.now c.size-2.ensures.width c.size-2.ensures.height in
    images_pass c.args.left.now c.args.right.now c.args.calib.now c.size.result c.size-2.result left right
    c.in_default.ensures

pub returns : goal.returns
returns c =
    let left = sides_are c.size.result c.args.left.now c.size.ensures.width c.size.ensures.height in
    let right = sides_are c.size-2.result c.args.right.now c.size-2.ensures.width c.size-2.ensures.height in
    let scene = c.in_ok-guided_scene.field-0.scene in
    let pair = c.in_ok-pair.pair in
    let made = c.in_ok-pair.ensures in
    scene_prepared c.args.left.now c.args.right.now c.args.calib.now c.size.result c.size-2.result (matched_in scene) left right c.in_default.ensures
    (matched_is c.args.left.now c.args.right.now c.args.calib.now scene pair.left.plane pair.right.plane pair.left.codes pair.right.codes pair.maxval
    c.in_ok-guided_scene.ensures.scene made.left_made.coded made.right_made.coded made.left_made.rectified made.right_made.rectified made.same_maxval)
