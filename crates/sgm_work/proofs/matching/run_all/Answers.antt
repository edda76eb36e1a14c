use denote.Param.Send.{sendable}
use Rattle.sgm_work.proofs.Threads.{board_sync, crew_send}
use Rattle.sgm_work.proofs.matching.run_all.Goals as goal

pub in_threads-requires-send-T : goal.in_threads-requires-send-T
in_threads-requires-send-T g c κs within = search (sendable, crew_send) depth 40

pub in_threads-requires-sync-F : goal.in_threads-requires-sync-F
in_threads-requires-sync-F g c κs within = search (sendable, board_sync) depth 40
