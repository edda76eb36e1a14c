use Rattle.sgm_strip.proofs.CutLemmas.{first_top, first_end, first_more, row_in}
use Rattle.sgm_strip.proofs.laws.strips.Goals as goal

pub returns-clause-top : goal.returns-clause-top
returns-clause-top c = first_top

pub returns-clause-some : goal.returns-clause-some
returns-clause-some c cut strip k = first_more cut strip k

pub returns-clause-end : goal.returns-clause-end
returns-clause-end c = first_end

pub returns-clause-each : goal.returns-clause-each
returns-clause-each c cut y k h = row_in cut y k h
