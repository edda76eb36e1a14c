use Rattle.std.proofs.Common.{◌≡◌, ◌-◌}
use Rattle.sgm_words.specs.Faults.{first_fault, number_fault}
use Rattle.sgm_words.specs.Operands.{bytes_of}
use Rattle.sgm_words.proofs.faults.numbers_fault.Given as goal

abbrev pub invariant-loop-position : goal.invariant-loop-position
invariant-loop-position l =
    first_fault (number_fault (bytes_of l.words)) l.position (l.position-end - l.position) ≡ first_fault (number_fault (bytes_of l.words)) l.from l.numbers
