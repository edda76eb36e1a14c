-- What contracts see of a machine.
use Rattle.sgm_handover.specs.Handover.{Handover}
use Rattle.sgm_handover.specs.Fields.{handover}
use Rattle.sgm_handover.specs.declared.machine.Machine.{Machine}

-- its state
abbrev pub state_of : Machine → Handover
state_of machine = handover machine.strips machine.passed machine.away machine.holders.items
