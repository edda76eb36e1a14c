use Rattle.sgm_energy.proofs.Sequences.{energy_push}
use Rattle.sgm_energy.proofs.LeastEnergies.{ending_first, ending_next_le, ending_next_in}
use Rattle.sgm_energy.proofs.laws.least_energies.Goals as goal

pub returns-clause-first : goal.returns-clause-first
returns-clause-first c = ending_first

pub returns-clause-low : goal.returns-clause-low
returns-clause-low c = ending_next_le

pub returns-clause-reached : goal.returns-clause-reached
returns-clause-reached c = ending_next_in

pub returns-clause-each : goal.returns-clause-each
returns-clause-each c = energy_push
