use Rattle.sgm_rectify.proofs.Rows.{rectified-identity}
use Rattle.sgm_rectify.proofs.laws.identity.Goals as goal

pub returns : goal.returns
returns c = rectified-identity
