use Rattle.std.proofs.Common.{◌≡◌, ◌-◌}
use Rattle.sgm_words.specs.Faults.{first_fault, output_fault, overwrite_fault}
use Rattle.sgm_words.specs.Operands.{bytes_of}
use Rattle.sgm_words.proofs.faults.overwrite_fault.Given as goal

abbrev pub invariant-loop-position : goal.invariant-loop-position
invariant-loop-position l = first_fault (output_fault l.command (bytes_of l.words)) l.position (l.names - l.position) ≡ overwrite_fault l.command (bytes_of l.words)
