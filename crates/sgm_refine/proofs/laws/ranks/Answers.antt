use Rattle.sgm_refine.proofs.Ranks.{all_ordered, in_order}
use Rattle.sgm_refine.proofs.laws.ranks.Goals as goal

pub returns : goal.returns
returns c = record { ordered = all_ordered; alone = in_order }
