use Rattle.sgm_refine.proofs.Chains.{chains}
use Rattle.sgm_refine.proofs.laws.chains.Goals as goal

pub returns : goal.returns
returns c = chains
