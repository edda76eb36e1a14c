use Rattle.std.proofs.Common.{arith}
use Rattle.std.proofs.lemmas.Bool.Decides.{nat_tests}
use Rattle.sgm_energy.specs.Step.{carried}
use Rattle.sgm_trace.proofs.energies.carried.Goals.{then-d-before, else-d-before}
use Rattle.sgm_trace.proofs.energies.carried.Goals as goal

pub returns-then-d-gt0-clause-value : goal.returns-then-d-gt0-clause-value
unfolding carried
returns-then-d-gt0-clause-value c = elim c.if-d-before.branch [
  | then-d-before w ↦ grind (arith, nat_tests)
  | else-d-before w ↦ grind (arith, nat_tests)
]

pub returns-else-d-gt0-clause-value : goal.returns-else-d-gt0-clause-value
unfolding carried
returns-else-d-gt0-clause-value c = elim c.if-d-before.branch [
  | then-d-before w ↦ grind (arith, nat_tests)
  | else-d-before w ↦ grind (arith, nat_tests)
]
