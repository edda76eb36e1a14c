use Rattle.sgm_pgm.proofs.WriteLaws.{written_is_text}
use Rattle.sgm_pgm.proofs.laws.written_is_text.Goals as goal

pub returns : goal.returns
returns c = written_is_text
