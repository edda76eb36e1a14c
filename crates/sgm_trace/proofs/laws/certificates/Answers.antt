use Rattle.sgm_trace.proofs.Existing.{best_member, best_ends, best_least, best_first, steps_sum}
use Rattle.sgm_trace.proofs.laws.certificates.Goals as goal

pub returns-clause-member : goal.returns-clause-member
returns-clause-member c = best_member

pub returns-clause-ends : goal.returns-clause-ends
returns-clause-ends c = best_ends

pub returns-clause-energy : goal.returns-clause-energy
returns-clause-energy c = best_least

pub returns-clause-first : goal.returns-clause-first
returns-clause-first c = best_first

pub returns-clause-adds : goal.returns-clause-adds
returns-clause-adds c = steps_sum
