use Rattle.sgm_fine.proofs.Covariances.{covariance_shifted, covariance_turned}
use Rattle.sgm_fine.proofs.laws.shifted.Goals as goal

pub returns-clause-turned : goal.returns-clause-turned
returns-clause-turned c = covariance_turned

pub returns-clause-moved : goal.returns-clause-moved
returns-clause-moved c f g z = covariance_shifted z f g
