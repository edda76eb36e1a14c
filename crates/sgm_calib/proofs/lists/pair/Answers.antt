use Rattle.std.proofs.Common.{ap₂}
use Rattle.sgm_calib.proofs.WarpLemmas.{narrowed}
use Rattle.sgm_calib.proofs.lists.pair.Goals as goal

pub returns : goal.returns
returns c = ap₂ (λ u v. (u, v)) (narrowed _ _ c.number.ensures c.requires.u) (narrowed _ _ c.number-2.ensures c.requires.v)
