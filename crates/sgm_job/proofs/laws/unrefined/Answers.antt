use Rattle.sgm_job.proofs.Finals.{unrefined}
use Rattle.sgm_job.proofs.laws.unrefined.Goals as goal

pub returns : goal.returns
returns c = unrefined
