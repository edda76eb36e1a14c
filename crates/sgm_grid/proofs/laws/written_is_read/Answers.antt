use Rattle.sgm_grid.proofs.WrittenLaws.{written_is_read}
use Rattle.sgm_grid.proofs.laws.written_is_read.Goals as goal

pub returns : goal.returns
returns c = written_is_read
