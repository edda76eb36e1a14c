use Rattle.std.proofs.Common.{◌∙◌, arith}
use Rattle.std.proofs.lemmas.Simd.{length-zip2}
use Rattle.sgm_lanes.proofs.Lanes.{Each2-from_get_or}
use Rattle.sgm_lanes.proofs.lane.minus.Goals as goal

pub overflow_sub-result : goal.overflow_sub-result
overflow_sub-result c = Each2-from_get_or _ c.args.a c.args.b (λ i lt. c.requires.fits i (omega arith))

pub returns-clause-len : goal.returns-clause-len
returns-clause-len c = length-zip2 _ c.args.a c.args.b (omega arith) ∙ c.requires.lens.0
