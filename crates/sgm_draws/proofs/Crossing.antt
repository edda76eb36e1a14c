-- Tickets may move to other threads, and threads may share draws.
use Rattle.std.proofs.Crossing.{crosses}
use Rattle.atomic_table.proofs.shared.Seat.TheSendSync as seat
use Rattle.atomic_table.proofs.shared.Shared.TheSendSync as shared
use Rattle.atomic_table.proofs.send_lease.SendLease.TheSendSync as lease
use denote.Param.Send.{IsSend, IsSync, sendable}
use Rattle.sgm_draws.specs.contracts.ticket.Ticket as ticket
use Rattle.sgm_draws.specs.contracts.draws.Draws as draws

pub ticket_send : IsSend ticket.the_row
ticket_send = search (seat.the_send, sendable, crosses) depth 20

pub draws_sync : IsSync draws.the_row
draws_sync = search (shared.the_sync, lease.the_sync, sendable, crosses) depth 20
