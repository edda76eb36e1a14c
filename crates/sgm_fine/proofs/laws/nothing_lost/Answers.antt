use Rattle.sgm_fine.proofs.Unhalved.{halvings_none, left_whole, right_whole, small_whole}
use Rattle.sgm_fine.proofs.laws.nothing_lost.Goals as goal

pub returns-clause-none : goal.returns-clause-none
returns-clause-none c = halvings_none

pub returns-clause-whole : goal.returns-clause-whole
returns-clause-whole c = small_whole

pub returns-clause-left : goal.returns-clause-left
returns-clause-left c = left_whole

pub returns-clause-right : goal.returns-clause-right
returns-clause-right c = right_whole
