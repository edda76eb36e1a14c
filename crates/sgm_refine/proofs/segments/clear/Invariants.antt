use Rattle.sgm_refine.proofs.Floods.{IsClearing}
use Rattle.sgm_refine.proofs.segments.clear.Given as goal

abbrev pub invariant-loop-at : goal.invariant-loop-at
invariant-loop-at l = IsClearing l.segment l.initial.kept l.kept l.at-index
