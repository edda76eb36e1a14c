use Rattle.std.proofs.Common.{arith}
use Rattle.std.proofs.lemmas.Grind.{common_steps}
use Rattle.sgm_refine.proofs.filling.matched_column.Goals as goal

pub overflow_cast-result : goal.overflow_cast-result
overflow_cast-result c = grind (arith, common_steps) steps 2000000

pub returns-else-x-ge0-clause-value : goal.returns-else-x-ge0-clause-value
returns-else-x-ge0-clause-value c = grind (arith, common_steps) steps 2000000

pub returns-then-x-width-clause-value : goal.returns-then-x-width-clause-value
returns-then-x-width-clause-value c = grind (arith, common_steps) steps 2000000

pub returns-then-x-width-clause-inside : goal.returns-then-x-width-clause-inside
returns-then-x-width-clause-inside c = grind (arith, common_steps) steps 2000000
