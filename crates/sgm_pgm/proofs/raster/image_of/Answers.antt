use Rattle.std.proofs.Common.{◌≡◌, ◌*◌, length, take, arith, rules}
use Rattle.std.proofs.lemmas.Grind.{common_steps}
use Rattle.std.proofs.lemmas.Result.{err_from_is_err_and}
use Rattle.sgm_pgm.specs.Fault.{AreSides}
use Rattle.sgm_pgm.specs.Raster.{raster_of}
use Rattle.sgm_pgm.proofs.RasterLaws.{image_is, fault_is}
use Rattle.sgm_pgm.proofs.raster.image_of.Goals as goal

pub returns-in_err-checked_image : goal.returns-in_err-checked_image
returns-in_err-checked_image c =
    let p = err_from_is_err_and c.from_residual-in_err-checked_image.result c.from_residual-in_err-checked_image.ensures.1 in
    let sides : AreSides c.args.size.width c.args.size.height = search rules in
    let bytes : raster_of c.args.maxval c.in_ok-samples.samples.items ≡ take c.bytes_needed-need.result c.args.raster.now = grind (arith, common_steps) in
    let full : length c.in_ok-samples.samples.items ≡ c.args.size.width * c.args.size.height = grind (arith, common_steps) in
    rw (p.1, p.2) (fault_is c.args.size.width c.args.size.height c.args.maxval c.bytes_needed-need.result c.args.raster.now c.in_ok-samples.samples.items c.in_err-checked_image.field-0.0 sides c.requires bytes full c.in_err-checked_image.ensures)

pub returns : goal.returns
returns c =
    let bytes : raster_of c.args.maxval c.in_ok-samples.samples.items ≡ take c.bytes_needed-need.result c.args.raster.now = grind (arith, common_steps) in
    let full : length c.in_ok-samples.samples.items ≡ c.args.size.width * c.args.size.height = grind (arith, common_steps) in
    image_is c.args.size.width c.args.size.height c.args.maxval c.bytes_needed-need.result c.args.raster.now c.in_ok-samples.samples.items c.in_ok-checked_image.field-0 c.requires c.in_ok-checked_image.ensures.0 c.in_ok-checked_image.ensures.1 bytes full
