use Rattle.std.proofs.Common.{◌≡◌, ℕ, ◌+◌, ◌<◌, get_or, None}
use Rattle.sgm_grid.specs.Beside.{cells_to}
use Rattle.sgm_grid.proofs.bridges.first_pier.Given as goal

-- none of the cells so far has a height
abbrev pub invariant-loop-away : goal.invariant-loop-away
invariant-loop-away l = (k : ℕ) → k + 1 < l.away → get_or (cells_to l.side l.grid l.col l.row) k None ≡ None
