use Rattle.std.proofs.Common.{arith}
use Rattle.sgm_refine.proofs.Kept.{all_kept}
use Rattle.sgm_refine.proofs.laws.unrefined.Goals as goal

pub returns : goal.returns
returns c = record { least = all_kept; plain = λ m matches left first count v. all_kept m 0 v (omega arith) }
