-- Passes may move to other threads, and threads may share a board.
use Rattle.std.proofs.Crossing.{crosses}
use Rattle.atomic_table.proofs.shared.Seat.TheSendSync as seat
use Rattle.atomic_table.proofs.shared.Shared.TheSendSync as shared
use Rattle.atomic_table.proofs.send_lease.SendLease.TheSendSync as lease
use denote.Param.Send.{IsSend, IsSync, sendable}
use Rattle.sgm_strip.specs.contracts.front.Front as front
use Rattle.sgm_strip.proofs.Crossing.{parcel_send, parcel_sync}
use Rattle.sgm_board.specs.contracts.slot.Slot as slot
use Rattle.sgm_board.specs.contracts.pass.Pass as pass
use Rattle.sgm_board.specs.contracts.board.Board as board

pub front_send : IsSend front.the_row
front_send = search (sendable, crosses) depth 20

pub front_sync : IsSync front.the_row
front_sync = search (sendable, crosses) depth 20

pub slot_send : IsSend slot.the_row
slot_send = search (parcel_send, front_send, sendable) depth 20

pub pass_send : IsSend pass.the_row
pass_send = search (slot_send, seat.the_send, sendable) depth 20

pub board_sync : IsSync board.the_row
board_sync = search (slot_send, shared.the_sync, lease.the_sync, parcel_sync, front_sync, sendable, crosses) depth 20
