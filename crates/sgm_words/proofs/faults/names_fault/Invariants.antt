use Rattle.std.proofs.Common.{◌≡◌, ◌-◌}
use Rattle.sgm_words.specs.Faults.{first_fault, name_fault}
use Rattle.sgm_words.specs.Operands.{bytes_of}
use Rattle.sgm_words.proofs.faults.names_fault.Given as goal

abbrev pub invariant-loop-position : goal.invariant-loop-position
invariant-loop-position l = first_fault (name_fault (bytes_of l.words)) l.position (l.position-end - l.position) ≡ first_fault (name_fault (bytes_of l.words)) 1 l.names
