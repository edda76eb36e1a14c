use Rattle.std.proofs.Common.{arith}
use Rattle.std.proofs.lemmas.Grind.{common_steps}
use Rattle.sgm_census.proofs.pack.keep.Goals as goal

pub loop-k-preserved : goal.loop-k-preserved
loop-k-preserved c = record { done = grind (arith, common_steps); left = grind (arith, common_steps) }
