-- A queue and its passes, as contracts see them.
use Rattle.std.specs.Prelude.{ℕ, ◌≤◌}
use Rattle.crossbeam_queue.specs.Fifo.{Held}
use Rattle.crossbeam_queue.specs.Passes.{view, IsPassOf, ruled_capacity}
use Rattle.sgm_queue.specs.Rules.{Known}
use Rattle.sgm_queue.specs.declared.log.Log.{Log}
use Rattle.sgm_queue.specs.declared.queue.Queue.{Queue}
use Rattle.sgm_queue.specs.declared.pass.QueuePass.{QueuePass}

module _ {T : Type 0} where
  -- what the pass knows
  abbrev pub log_of : QueuePass T → Log T
  log_of pass = view pass.pass

  -- the pass is of this queue, and wasn't joined to another
  pub record IsQueuePassOf (queue : Queue T) (pass : QueuePass T) : Type 0 where
    pub same_queue : IsPassOf queue.inner pass.pass
    pub live : 1 ≤ (log_of pass).shares

  abbrev pub HasBoth : Log T → Type 0
  HasBoth log = 2 ≤ log.shares

  -- for how many values a queue has room
  abbrev pub room_of : Queue T → ℕ
  room_of queue = ruled_capacity queue.inner

  -- at one moment the queue had as many values as it has room for, as far as a pass knows of them
  abbrev pub WasFull : Queue T → Log T → Type 0
  WasFull queue v = Held (room_of queue) (Known v)
