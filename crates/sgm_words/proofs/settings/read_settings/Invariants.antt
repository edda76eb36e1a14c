use Rattle.sgm_words.specs.Operands.{bytes_of}
use Rattle.sgm_words.proofs.Reading.{SoFar}
use Rattle.sgm_words.proofs.settings.read_settings.Given as goal

abbrev pub invariant-loop-position : goal.invariant-loop-position
invariant-loop-position l = SoFar l.command (bytes_of l.words) l.position l.settings
