use Rattle.sgm_handover.specs.Handover.{fresh}
use Rattle.sgm_handover.proofs.Soundness.{fresh-sound, goes_on}
use Rattle.sgm_handover.proofs.Runs.{run-sound}
use Rattle.sgm_handover.proofs.Order.{taken_in_order}
use Rattle.sgm_handover.proofs.laws.runs.Goals as goal

pub returns-clause-sound : goal.returns-clause-sound
returns-clause-sound c strips events legal = run-sound (fresh strips) events legal (fresh-sound strips)

pub returns-clause-in_order : goal.returns-clause-in_order
returns-clause-in_order c = taken_in_order

pub returns-clause-goes_on : goal.returns-clause-goes_on
returns-clause-goes_on c = goes_on
