use Rattle.sgm_pgm.proofs.ReadLaws.{reads_some, reads_one}
use Rattle.sgm_pgm.proofs.laws.one_reading.Goals as goal

pub returns-clause-some : goal.returns-clause-some
returns-clause-some c = reads_some

pub returns-clause-only : goal.returns-clause-only
returns-clause-only c = reads_one
