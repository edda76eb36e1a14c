-- What a pass knows, and how each of its steps changes that.
use Rattle.std.specs.Prelude.{ℕ, ◌+◌, List, [], ◌∷◌, ◌++◌}
use Rattle.sgm_queue.specs.declared.log.Log.{Log}

module _ {T : Type 0} where
  abbrev pub log : ℕ → List T → List T → Log T
  log shares pushed popped = record { shares = shares; pushed = pushed; popped = popped }

  -- the first pass: it has both shares
  abbrev pub first : Log T
  first = log 2 [] []

  -- where it is cut in two, each part has one
  abbrev pub kept : Log T → Log T
  kept v = log 1 v.pushed v.popped

  abbrev pub given : Log T → Log T
  given v = log 1 [] []

  -- a pass with what two have
  abbrev pub joined : Log T → Log T → Log T
  joined v w = log (v.shares + w.shares) (v.pushed ++ w.pushed) (v.popped ++ w.popped)

  -- a pass that was joined to another
  abbrev pub spent : Log T
  spent = log 0 [] []

  abbrev pub after_push : Log T → T → Log T
  after_push v x = log v.shares (v.pushed ++ x ∷ []) v.popped

  abbrev pub after_pop : Log T → T → Log T
  after_pop v x = log v.shares v.pushed (v.popped ++ x ∷ [])
