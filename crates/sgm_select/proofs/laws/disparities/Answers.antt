use Rattle.sgm_select.proofs.Rows.{checked_in-is}
use Rattle.sgm_select.proofs.laws.disparities.Goals as goal

pub returns : goal.returns
returns c = checked_in-is
