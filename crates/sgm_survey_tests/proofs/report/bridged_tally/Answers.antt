use Rattle.std.proofs.Common.{sym, ap}
use Rattle.sgm_grid.specs.Bridges.{bridged}
use Rattle.sgm_grid.specs.Cells.{Cells}
use Rattle.sgm_survey_tests.proofs.report.bridged_tally.Goals as goal

pub tally-requires-clause-same : goal.tally-requires-clause-same
unfolding bridged
tally-requires-clause-same g c = sym (ap (λ (g : Cells). g.spec) c.in_ok-grid.ensures)
