use Rattle.sgm_report.specs.Tallies.{rows_of}
use Rattle.sgm_report.proofs.Regions.{no_bridges}
use Rattle.sgm_report.proofs.laws.without_bridges.Goals as goal

pub returns : goal.returns
returns c = λ grid area. no_bridges grid area (rows_of area)
