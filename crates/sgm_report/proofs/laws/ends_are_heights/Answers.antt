use Rattle.sgm_report.specs.Tallies.{heights_in, region_cells}
use Rattle.sgm_report.proofs.Regions.{highest_is, lowest_is}
use Rattle.sgm_report.proofs.laws.ends_are_heights.Goals as goal

pub returns-clause-lowest : goal.returns-clause-lowest
returns-clause-lowest c = λ grid measured area. lowest_is (heights_in (region_cells grid measured area))

pub returns-clause-highest : goal.returns-clause-highest
returns-clause-highest c = λ grid measured area. highest_is (heights_in (region_cells grid measured area))
