use Rattle.std.proofs.Common.{arith}
use Rattle.std.proofs.lemmas.Grind.{common_steps}
use Rattle.sgm_base.proofs.overlap.Overlap.of.Goals as goal

pub returns-clause-each : goal.returns-clause-each
returns-clause-each c = grind (arith, common_steps)
