use Rattle.sgm_height.proofs.Lengths.{at_most, at_least}
use Rattle.sgm_height.proofs.laws.lengths_are_kept.Goals as goal

pub returns-clause-at_most : goal.returns-clause-at_most
returns-clause-at_most c = at_most

pub returns-clause-at_least : goal.returns-clause-at_least
returns-clause-at_least c = at_least
