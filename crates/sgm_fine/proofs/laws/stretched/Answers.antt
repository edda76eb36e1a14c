use Rattle.sgm_fine.proofs.Covariances.{covariance_stretched}
use Rattle.sgm_fine.proofs.laws.stretched.Goals as goal

pub returns : goal.returns
returns c f g z = covariance_stretched z f g
