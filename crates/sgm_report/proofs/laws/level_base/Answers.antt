use Rattle.sgm_report.proofs.Regions.{level_base}
use Rattle.sgm_report.proofs.laws.level_base.Goals as goal

pub returns : goal.returns
returns c = level_base
