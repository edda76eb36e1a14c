use Rattle.sgm_report.proofs.Regions.{empty_tally}
use Rattle.sgm_report.proofs.laws.without_heights.Goals as goal

pub returns : goal.returns
returns c = empty_tally
