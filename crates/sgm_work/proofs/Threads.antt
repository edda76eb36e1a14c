-- What crosses threads: a worker goes to its thread, and all threads share the board.
use denote.RattleType.{RattleType}
use denote.Param.Send.{IsSend, IsSync, Frees, sendable, part_keyless}
use denote.Struct.Struct.{Struct}
use denote.Struct.Owning.{shape}
use Rattle.std.proofs.Crossing.{crosses}
use Rattle.std.specs.declared.alloc.Allocator as alloc
use Rattle.atomic_table.specs.declared.shared.TableRule as rule
use Rattle.atomic_table.specs.contracts.shared.Seat as seat
use Rattle.atomic_table.specs.contracts.shared.Shared as shared
use Rattle.atomic_table.specs.contracts.send_lease.SendLease as lease
use Rattle.atomic_table.proofs.Sent.{seat_keyless, shares_keyless}
use Rattle.atomic_table.proofs.Rights.{right_send}
use Rattle.crossbeam_utils.specs.contracts.cache_padded.CachePadded as padded
use Rattle.sgm_strip.specs.contracts.front.Front as front
use Rattle.sgm_strip.specs.contracts.row.Row as row
use Rattle.sgm_strip.proofs.Crossing.{parcel_send, parcel_sync}
use Rattle.sgm_board.specs.contracts.slot.Slot as slot
use Rattle.sgm_board.specs.contracts.board.Board as board
use Rattle.sgm_work.specs.contracts.matching.Worker as worker

seat_send : (S V : RattleType) → IsSend S → IsSend (seat.the_row S V)
seat_send S V s = record { owned = λ d vs. ((λ vss. (tt, ((λ uss. (tt, tt)), tt))), seat_keyless S s V.coded.code d.table_id d.id d.me); leaving = λ k f vs. tt }

shared_sync : (S V K P : RattleType) (g : rule.Ghosts P.Denot S.Denot V.Denot K.Denot) → IsSend S → IsSync (shared.the_row S V K P g)
shared_sync S V K P g s = let fields : IsSync (Struct (shape (shared.the_type S V K P g))) = search sendable depth 20 in
    record { shared = λ d b o ν. (fields.shared (d.words, (d.slots, (tt, tt))) b o ν, shares_keyless S s V.coded.code d.table_id (g.holds d.key) d.words d.slots ν) }

lease_sync : (T A : RattleType) (g : alloc.Ghosts A.Denot) → IsSend A → Frees g g.dealloc_token → IsSync (lease.the_row T A g)
lease_sync T A g s f = record { shared = λ d b o ν q. part_keyless (lease.the_row T A g) (right_send T A g f) q d b o }

front_send : IsSend front.the_row
front_send = search (sendable, crosses) depth 40

front_sync : IsSync front.the_row
front_sync = search (sendable, crosses) depth 40

slot_send : IsSend slot.the_row
slot_send = search (sendable, parcel_send, front_send) depth 40

row_send : IsSend row.the_row
row_send = search (sendable, crosses) depth 40

worker_send : IsSend worker.the_row
worker_send = search (sendable, crosses, seat_send, slot_send, row_send) depth 40 fits 20000

pub crew_send : IsSend (padded.the_row worker.the_row)
crew_send = search (sendable, worker_send) depth 40

pub board_sync : IsSync board.the_row
board_sync = search (sendable, crosses, slot_send, shared_sync, lease_sync, parcel_sync, front_sync) depth 40 fits 20000
