use Rattle.sgm_batch.proofs.Popping.{IsTakenOver}
use Rattle.sgm_batch.proofs.batch.take_over.Given as goal

abbrev pub invariant-loop-place : goal.invariant-loop-place
invariant-loop-place l = IsTakenOver l.place l.initial.places l.initial.kept.items l.places l.kept.items
