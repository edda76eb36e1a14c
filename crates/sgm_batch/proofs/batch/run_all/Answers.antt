use Rattle.std.proofs.Crossing.{sync as heap_sync}
use denote.Param.Send.{sendable}
use Rattle.sgm_batch.proofs.Crossing.{job_sync, worker_send}
use Rattle.sgm_batch.proofs.batch.run_all.Goals as goal

pub for_each_mut-requires-send-T : goal.for_each_mut-requires-send-T
for_each_mut-requires-send-T g c κs within = search (worker_send, sendable) depth 40

pub for_each_mut-requires-sync-F : goal.for_each_mut-requires-sync-F
for_each_mut-requires-sync-F g c κs within = search (heap_sync, job_sync, sendable) depth 40
