use Rattle.sgm_report.proofs.Backwards.{outline_backwards}
use Rattle.sgm_report.proofs.laws.outline_backwards.Goals as goal

pub returns : goal.returns
returns c = outline_backwards
