use Rattle.sgm_report.proofs.Regions.{cells_counted, rectangle_counted}
use Rattle.sgm_report.proofs.laws.every_cell_counts.Goals as goal

pub returns-clause-once : goal.returns-clause-once
returns-clause-once c = cells_counted

pub returns-clause-rectangle : goal.returns-clause-rectangle
returns-clause-rectangle c = rectangle_counted
