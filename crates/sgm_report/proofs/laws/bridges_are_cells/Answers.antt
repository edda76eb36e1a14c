use Rattle.sgm_report.specs.Tallies.{region_cells}
use Rattle.sgm_report.proofs.Regions.{bridged-le}
use Rattle.sgm_report.proofs.laws.bridges_are_cells.Goals as goal

pub returns : goal.returns
returns c = λ grid measured area. bridged-le (region_cells grid measured area)
