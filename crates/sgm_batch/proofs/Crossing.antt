-- Workers may move to other threads, and threads may share a job.
use Rattle.std.proofs.Crossing.{crosses}
use Rattle.atomic_table.proofs.shared.Seat.TheSendSync as seat
use denote.Ref.{NamedLft}
use denote.Param.Send.{IsSend, IsSync, sendable}
use Rattle.sgm_stages.specs.contracts.made.MadeTexts as made
use Rattle.sgm_stages.specs.contracts.stops.TextsError as error
use Rattle.sgm_draws.proofs.Crossing.{draws_sync}
use Rattle.sgm_queue.proofs.Crossing.{queue_sync}
use Rattle.sgm_stages.specs.contracts.gathering.Inputs as inputs
use Rattle.sgm_batch.specs.contracts.piece.Piece as piece
use Rattle.sgm_batch.specs.contracts.worker.Worker as worker
use Rattle.sgm_batch.specs.contracts.worker.Job as job

inputs_sync : IsSync inputs.the_row
inputs_sync = search (sendable, crosses) depth 20

made_send : IsSend made.the_row
made_send = search (sendable, crosses) depth 20

error_send : IsSend error.the_row
error_send = search (sendable, crosses) depth 40 fits 10000

piece_send : IsSend piece.the_row
piece_send = search (made_send, error_send, sendable, crosses) depth 20

pub worker_send : IsSend worker.the_row
worker_send = search (seat.the_send, piece_send, sendable, crosses) depth 40

pub job_sync : (a : NamedLft) → IsSync (job.the_row a)
job_sync a = search (inputs_sync, piece_send, draws_sync, queue_sync, sendable, crosses) depth 20
