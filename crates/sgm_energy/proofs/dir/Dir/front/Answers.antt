use Rattle.std.proofs.Common.{arith}
use Rattle.std.proofs.lemmas.Grind.{common_steps}
use Rattle.sgm_energy.proofs.dir.Dir.front.Goals as goal

pub returns-in-Right : goal.returns-in-Right
returns-in-Right c = grind (arith, common_steps)
