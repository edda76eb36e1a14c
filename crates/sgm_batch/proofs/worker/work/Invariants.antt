use Rattle.sgm_batch.specs.Batches.{CanWork, IsSameWorker}
use Rattle.sgm_batch.proofs.worker.work.Given as goal

abbrev pub invariant-loop : goal.invariant-loop
invariant-loop g l = record {
  can_work : CanWork l.job l.worker;
  same : IsSameWorker l.initial.worker l.worker;
}
