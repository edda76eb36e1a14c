use Rattle.sgm_census.specs.Codes.{smoothed_code_at}
use Rattle.sgm_census.specs.Windows.{greatest_of}
use Rattle.sgm_census.proofs.SmoothedRows.{CompletedTo}
use Rattle.sgm_census.proofs.smoothed.complete.Given as goal

abbrev pub invariant-loop-x : goal.invariant-loop-x
invariant-loop-x l = CompletedTo (greatest_of l.fn.window) l.plane.width (λ z. smoothed_code_at l.plane l.fn.window z l.fn.y) l.fn.words l.fn.present l.words l.present l.x
