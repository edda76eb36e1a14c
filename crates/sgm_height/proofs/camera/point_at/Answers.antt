use Rattle.std.proofs.Common.{◌≡◌, ◌-ℤ◌, FitsSigned, w64, to_z, of_z, arith, ◌∙◌}
use Rattle.std.proofs.lemmas.Int.{ints, to_z-of_z}
use Rattle.sgm_height.proofs.Points.{no_shift, shifted, at_least, too_small, too_near, too_far, found, depth_is, east_is, north_is}
use Rattle.sgm_height.proofs.Quotients.{fits_within}
use Rattle.sgm_height.proofs.camera.point_at.Goals as goal

pub returns-then-shift-le0-clause-exact : goal.returns-then-shift-le0-clause-exact
returns-then-shift-le0-clause-exact c = no_shift c.args.camera.now c.args.x c.args.y c.args.shift c.ranges.shift c.if-shift-le0.true

pub returns-then-depth-camera-clause-exact : goal.returns-then-depth-camera-clause-exact
returns-then-depth-camera-clause-exact c =
    let focal : FitsSigned w64 c.args.camera.now.focal = fits_within _ (omega (arith, ints), omega (arith, ints)) in
    let baseline : FitsSigned w64 c.args.camera.now.baseline = fits_within _ (omega (arith, ints), omega (arith, ints)) in
    let near : FitsSigned w64 c.args.camera.now.near = fits_within _ (omega (arith, ints), omega (arith, ints)) in
    let depth : FitsSigned w64 c.scaled-depth.result = record { sfits = c.scaled-depth.type_inv } in
    too_near c.args.camera.now c.args.x c.args.y c.args.shift c.scaled-depth.result (depth_is c.args.camera.now.focal c.args.camera.now.baseline c.args.shift c.scaled-depth.result focal baseline c.ranges.shift c.scaled-depth.ensures.exact)
    (shifted c.args.shift c.ranges.shift c.if-shift-le0.false) (too_small c.scaled-depth.result c.args.camera.now.near depth near c.if-depth-camera.true)

pub returns-then-depth-camera-2-clause-exact : goal.returns-then-depth-camera-2-clause-exact
returns-then-depth-camera-2-clause-exact c =
    let focal : FitsSigned w64 c.args.camera.now.focal = fits_within _ (omega (arith, ints), omega (arith, ints)) in
    let baseline : FitsSigned w64 c.args.camera.now.baseline = fits_within _ (omega (arith, ints), omega (arith, ints)) in
    let near : FitsSigned w64 c.args.camera.now.near = fits_within _ (omega (arith, ints), omega (arith, ints)) in
    let far : FitsSigned w64 c.args.camera.now.far = fits_within _ (omega (arith, ints), omega (arith, ints)) in
    let depth : FitsSigned w64 c.scaled-depth.result = record { sfits = c.scaled-depth.type_inv } in
    too_far c.args.camera.now c.args.x c.args.y c.args.shift c.scaled-depth.result (depth_is c.args.camera.now.focal c.args.camera.now.baseline c.args.shift c.scaled-depth.result focal baseline c.ranges.shift c.scaled-depth.ensures.exact)
    (shifted c.args.shift c.ranges.shift c.if-shift-le0.false) (at_least c.scaled-depth.result c.args.camera.now.near depth near c.if-depth-camera.false)
    (too_small c.args.camera.now.far c.scaled-depth.result far depth c.if-depth-camera-2.true)

pub returns-clause-exact : goal.returns-clause-exact
returns-clause-exact c =
    let focal : FitsSigned w64 c.args.camera.now.focal = fits_within _ (omega (arith, ints), omega (arith, ints)) in
    let baseline : FitsSigned w64 c.args.camera.now.baseline = fits_within _ (omega (arith, ints), omega (arith, ints)) in
    let near : FitsSigned w64 c.args.camera.now.near = fits_within _ (omega (arith, ints), omega (arith, ints)) in
    let far : FitsSigned w64 c.args.camera.now.far = fits_within _ (omega (arith, ints), omega (arith, ints)) in
    let depth : FitsSigned w64 c.scaled-depth.result = record { sfits = c.scaled-depth.type_inv } in
    let east = to_z-of_z w64 c.scaled-east.result (record { sfits = c.scaled-east.type_inv }) in
    let north = to_z-of_z w64 c.scaled-north.result (record { sfits = c.scaled-north.type_inv }) in
    let high : to_z w64 (of_z w64 (to_z w64 (of_z w64 c.args.camera.now.mount) -ℤ to_z w64 (of_z w64 c.scaled-depth.result))) ≡ c.args.camera.now.mount -ℤ c.scaled-depth.result = omega (arith, ints) in
    found c.args.camera.now c.args.x c.args.y c.args.shift c.scaled-depth.result
    (to_z w64 (of_z w64 c.scaled-east.result)) (to_z w64 (of_z w64 c.scaled-north.result)) _
    (depth_is c.args.camera.now.focal c.args.camera.now.baseline c.args.shift c.scaled-depth.result focal baseline c.ranges.shift c.scaled-depth.ensures.exact)
    (east ∙ east_is c.args.x c.args.camera.now.cx c.args.camera.now.baseline c.args.shift c.scaled-east.result c.requires.x_in c.requires.camera.cx_in_range baseline c.ranges.shift c.scaled-east.ensures.exact)
    (north ∙ north_is c.args.y c.args.camera.now.cy c.args.camera.now.baseline c.args.shift c.scaled-north.result c.requires.y_in c.requires.camera.cy_in_range baseline c.ranges.shift c.scaled-north.ensures.exact)
    high
    (shifted c.args.shift c.ranges.shift c.if-shift-le0.false) (at_least c.scaled-depth.result c.args.camera.now.near depth near c.if-depth-camera.false)
    (at_least c.args.camera.now.far c.scaled-depth.result far depth c.if-depth-camera-2.false)

pub returns-clause-height : goal.returns-clause-height
returns-clause-height c = (omega (arith, ints), omega (arith, ints))

pub overflow_sub-camera : goal.overflow_sub-camera
overflow_sub-camera c = fits_within _ (omega (arith, ints), omega (arith, ints))

pub scaled-east-requires-clause-offset : goal.scaled-east-requires-clause-offset
scaled-east-requires-clause-offset c = (omega (arith, ints), omega (arith, ints))

pub scaled-north-requires-clause-offset : goal.scaled-north-requires-clause-offset
scaled-north-requires-clause-offset c = (omega (arith, ints), omega (arith, ints))
