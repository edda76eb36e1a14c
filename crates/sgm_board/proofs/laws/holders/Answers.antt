use Rattle.sgm_board.proofs.Lawful.{one_holder, one_taker, left_to_do, most_found}
use Rattle.sgm_board.proofs.laws.holders.Goals as goal

pub returns-clause-strips : goal.returns-clause-strips
returns-clause-strips c about made s m a b strip v u shown = one_holder about made s m shown a b strip v u

pub returns-clause-fronts : goal.returns-clause-fronts
returns-clause-fronts c about made s m a b dir v u shown = one_taker about made s m shown a b dir v u

pub returns-clause-left : goal.returns-clause-left
returns-clause-left c about made s m at dir v shown = left_to_do about made s m shown at dir v

pub returns-clause-bound : goal.returns-clause-bound
returns-clause-bound c about made s m dir shown = most_found about made s m shown dir
