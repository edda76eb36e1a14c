use Rattle.std.proofs.Common.{◌∙◌, arith}
use Rattle.std.proofs.Math.Facts.{Fits-of_lt}
use Rattle.std.proofs.lemmas.Simd.{length-zip2}
use Rattle.sgm_lanes.proofs.Lanes.{Each2-from_get_or}
use Rattle.sgm_lanes.proofs.lane.plus.Goals as goal

pub overflow_add-result : goal.overflow_add-result
overflow_add-result c = Each2-from_get_or _ c.args.a c.args.b (λ i lt. Fits-of_lt (c.requires.fits i (omega arith)))

pub returns-clause-len : goal.returns-clause-len
returns-clause-len c = length-zip2 _ c.args.a c.args.b (omega arith) ∙ c.requires.lens.0
