use Rattle.sgm_energy.proofs.SumLemmas.{done_none, done_more, done_all, done_room, done_bound, sum_bound}
use Rattle.sgm_energy.proofs.laws.sums.Goals as goal

pub returns-clause-none : goal.returns-clause-none
returns-clause-none c = done_none

pub returns-clause-more : goal.returns-clause-more
returns-clause-more c = done_more

pub returns-clause-all : goal.returns-clause-all
returns-clause-all c = done_all

pub returns-clause-room : goal.returns-clause-room
returns-clause-room c = done_room

pub returns-clause-bound : goal.returns-clause-bound
returns-clause-bound c = done_bound

pub returns-clause-whole : goal.returns-clause-whole
returns-clause-whole c = sum_bound
