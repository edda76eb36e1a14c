use Rattle.std.proofs.Common.{arith}
use Rattle.sgm_select.proofs.indices.key.Goals as goal

pub returns : goal.returns
returns c = omega (arith, c.from.ensures)
