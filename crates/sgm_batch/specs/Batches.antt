-- A batch at work.
use Rattle.std.specs.Prelude.{◌≡◌, ◌⊎◌, ◌+◌, ℕ, ◌==◌, ◌<◌, ◌≤◌, List, [], Bool, All, count_by}
use Rattle.std.specs.Prelude.{length, slice_get, Option, None, Some}
use Rattle.std.specs.List.{sum_by}
use Rattle.sgm_draws.specs.Numbers.{IsEachOnce, times}
use Rattle.sgm_draws.specs.Tickets.{HasAll, IsTicketOf, count_of, parts_of, tickets_of}
use Rattle.sgm_queue.specs.Queues.{IsQueuePassOf, log_of}
use Rattle.sgm_stages.specs.Inputs.{InputBytes}
use Rattle.sgm_batch.specs.Pieces.{IsPieceOf, PieceParts}
use Rattle.sgm_batch.specs.declared.worker.Worker.{Worker}
use Rattle.sgm_batch.specs.declared.worker.Job.{Job}

-- a piece of this entry
abbrev pub is_of : ℕ → PieceParts → Bool
is_of number piece = piece.entry == number

-- at each place that isn't empty stands the piece of that entry
abbrev pub ArePlaced : List InputBytes → List (Option PieceParts) → Type 0
ArePlaced batch places =
    (place : ℕ) (piece : PieceParts) → slice_get places place ≡ Some (Some piece)
    → (piece.entry ≡ place) × IsPieceOf batch piece

-- the worker pushed or kept a piece of this entry
abbrev pub HasPiece : Worker → ℕ → Type 0
HasPiece worker number = (1 ≤ count_by (is_of number) (log_of worker.pass).pushed)
    ⊎ ((piece : PieceParts) × (slice_get worker.kept.items number ≡ Some (Some piece)))

-- it has still a piece of each entry of which it had one
abbrev pub Covers : Worker → Worker → Type 0
Covers old now = (number : ℕ) → HasPiece old number → HasPiece now number

-- the numbers that are drawn are those of the entries
abbrev pub IsJob : Job → Type 0
IsJob job = count_of job.draws.now ≡ length job.inputs.now

-- of each number that it drew, the worker has a piece
abbrev pub HasItsPieces : Worker → Type 0
HasItsPieces worker = (number : ℕ) → 1 ≤ times (parts_of worker.ticket).drawn number
    → HasPiece worker number

-- the worker's ticket and its pass are of the job; it popped nothing; and all pieces that it pushed
-- or kept are of the batch, each kept one at the place of its entry
pub record IsAtWork (job : Job) (worker : Worker) : Type 0 where
  pub ticket : IsTicketOf job.draws.now worker.ticket
  pub pass : IsQueuePassOf job.queue.now worker.pass
  pub unpopped : (log_of worker.pass).popped ≡ []
  pub pushed : All (IsPieceOf job.inputs.now) (log_of worker.pass).pushed
  pub places : length worker.kept.items ≡ length job.inputs.now
  pub kept : ArePlaced job.inputs.now worker.kept.items

-- it has made the pieces of all that it drew, and may draw
pub record CanWork (job : Job) (worker : Worker) : Type 0 where
  pub at_work : IsAtWork job worker
  pub each : HasItsPieces worker
  pub may_draw : (parts_of worker.ticket).seen < count_of job.draws.now

-- it has made the pieces of all that it drew, and saw that no number is left
pub record IsDone (job : Job) (worker : Worker) : Type 0 where
  pub at_work : IsAtWork job worker
  pub each : HasItsPieces worker
  pub end : count_of job.draws.now ≤ (parts_of worker.ticket).seen
  -- a ticket that has gathered all, as where there is no other worker, has drawn all
  pub all : HasAll (tickets_of job.draws.now) (parts_of worker.ticket)
      → IsEachOnce (count_of job.draws.now) (parts_of worker.ticket).drawn

-- what work doesn't change of a worker: its shares in the queue, and the numbers of tickets that it
-- has gathered
pub record IsSameWorker (old now : Worker) : Type 0 where
  pub shares : (log_of now.pass).shares ≡ (log_of old.pass).shares
  pub gathered : (parts_of now.ticket).gathered ≡ (parts_of old.ticket).gathered

-- no place is empty
abbrev pub AreAll : List (Option PieceParts) → Type 0
AreAll places = (place : ℕ) → place < length places
    → (piece : PieceParts) × (slice_get places place ≡ Some (Some piece))

-- it has a piece of each entry
abbrev pub HasEach : Job → Worker → Type 0
HasEach job worker = (number : ℕ) → number < length job.inputs.now → HasPiece worker number

-- the worker's shares in the queue, and how often it gathered a ticket's number
abbrev pub shares_of : Worker → ℕ
shares_of worker = (log_of worker.pass).shares

abbrev pub times_gathered : ℕ → Worker → ℕ
times_gathered number worker = times (parts_of worker.ticket).gathered number

-- these workers are all of the job: together they have both shares in its queue and the numbers of
-- all its tickets
pub record AreAllOf (job : Job) (crew : List Worker) : Type 0 where
  pub shares : sum_by shares_of crew ≡ 2
  pub tickets : (number : ℕ) → number < tickets_of job.draws.now
      → 1 ≤ sum_by (times_gathered number) crew

-- it has the shares and the tickets' numbers of two
pub record IsJoined (old other now : Worker) : Type 0 where
  pub shares : shares_of now ≡ shares_of old + shares_of other
  pub tickets : (number : ℕ)
      → times_gathered number now ≡ times_gathered number old + times_gathered number other

-- what is at a place after what another had there was put over it
abbrev pub chosen : Option (Option PieceParts) → Option (Option PieceParts)
    → Option (Option PieceParts)
chosen None own = own
chosen (Some None) own = own
chosen (Some (Some piece)) own = Some (Some piece)
