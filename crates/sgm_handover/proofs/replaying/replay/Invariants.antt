use Rattle.std.proofs.Common.{◌≡◌, ℕ, ◌<◌, take}
use Rattle.sgm_handover.specs.Handover.{fresh}
use Rattle.sgm_handover.specs.Events.{LegalAt, run}
use Rattle.sgm_handover.specs.Machines.{state_of}
use Rattle.sgm_handover.proofs.replaying.replay.Given as goal

abbrev pub invariant-loop-at : goal.invariant-loop-at
invariant-loop-at l = record {
  legal : (k : ℕ) → k < l.at → LegalAt (fresh l.strips) l.events k;
  state : state_of l.machine ≡ run (fresh l.strips) (take l.at l.events);
}
