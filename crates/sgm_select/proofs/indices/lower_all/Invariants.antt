use Rattle.sgm_select.specs.Keys.{HoldsKeys}
use Rattle.sgm_select.proofs.indices.lower_all.Given as goal

abbrev pub invariant-loop-p : goal.invariant-loop-p
invariant-loop-p l = HoldsKeys l.sums l.width l.fn.span l.from l.p l.keys
