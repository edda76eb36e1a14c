use Rattle.std.proofs.Common.{◌≡◌, ◌++◌, drop, map, not, take}
use Rattle.sgm_report.proofs.outline.turn.Given as goal

abbrev pub invariant-loop-mark : goal.invariant-loop-mark
invariant-loop-mark l = l.marks ≡ map not (take l.mark-index l.fn.marks) ++ drop l.mark-index l.fn.marks
