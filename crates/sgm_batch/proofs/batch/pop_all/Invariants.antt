use Rattle.sgm_batch.proofs.Popping.{IsPopping}
use Rattle.sgm_batch.proofs.batch.pop_all.Given as goal

abbrev pub invariant-loop : goal.invariant-loop
invariant-loop g l = IsPopping l.job l.initial.worker l.worker
