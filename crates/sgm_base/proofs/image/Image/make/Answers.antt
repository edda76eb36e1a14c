use Rattle.std.proofs.Common.{rules}
use Rattle.sgm_base.proofs.image.Image.make.Goals as goal

pub invariant_of-result : goal.invariant_of-result
invariant_of-result c = search rules
