-- Passes may move to other threads, and threads may share a queue, where its values may move.
use Rattle.std.proofs.Crossing.{crosses}
use Rattle.atomic_table.proofs.shared.Seat.TheSendSync as seat
use Rattle.atomic_table.proofs.shared.Shared.TheSendSync as shared
use Rattle.atomic_table.proofs.send_lease.SendLease.TheSendSync as lease
use denote.RattleType.{RattleType}
use denote.Param.Send.{IsSend, IsSync, sendable}
use Rattle.sgm_queue.specs.contracts.pass.QueuePass as pass
use Rattle.sgm_queue.specs.contracts.queue.Queue as queue

pub pass_send : (T : RattleType) → IsSend T → IsSend (pass.the_row T)
pass_send T s = search (seat.the_send, sendable, crosses) depth 30

pub queue_sync : (T : RattleType) → IsSend T → IsSync (queue.the_row T)
queue_sync T s = search (shared.the_sync, lease.the_sync, sendable, crosses) depth 30
