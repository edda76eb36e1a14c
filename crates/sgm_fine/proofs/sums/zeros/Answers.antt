use Rattle.sgm_fine.proofs.Numbers.{number_none}
use Rattle.sgm_fine.proofs.sums.zeros.Goals as goal

pub returns : goal.returns
returns c = λ k. number_none 32 k
