use Rattle.sgm_refine.specs.declared.met.TheConstants.{UPWARDS}
use Rattle.sgm_refine.specs.Met.{HoldMetUpwards}
use Rattle.sgm_refine.proofs.met.meet_upwards.Given as goal

-- the rows before this one are written
abbrev pub invariant-loop-k : goal.invariant-loop-k
invariant-loop-k l = HoldMetUpwards l.map UPWARDS l.k l.into
