use Rattle.sgm_refine.proofs.Bounds.{kept_most, refined_most}
use Rattle.sgm_refine.proofs.laws.bounds.Goals as goal

pub returns : goal.returns
returns c = record { kept = kept_most; refined = refined_most }
