use Rattle.sgm_fine.proofs.Squares.{covariance_within, own_from_0}
use Rattle.sgm_fine.proofs.laws.explained.Goals as goal

pub returns-clause-own : goal.returns-clause-own
returns-clause-own c = own_from_0

pub returns-clause-most : goal.returns-clause-most
returns-clause-most c = covariance_within
