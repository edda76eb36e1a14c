use Rattle.std.proofs.Common.{◌≡◌, ◌++◌, take}
use Rattle.sgm_grid.specs.Text.{after_spaces}
use Rattle.sgm_grid.proofs.text.append_rest.Given as goal

abbrev pub invariant-loop-height : goal.invariant-loop-height
invariant-loop-height l = l.into.items ≡ l.initial.into.items ++ after_spaces (take l.height-index l.heights)
