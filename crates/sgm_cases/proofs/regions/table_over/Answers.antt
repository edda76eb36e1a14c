use Rattle.std.proofs.Common.{ap, subst, sym, ◌∙◌}
use Rattle.std.specs.Prelude.{All}
use Rattle.sgm_grid.specs.Cells.{Cells}
use Rattle.sgm_grid.specs.declared.grid_spec.GridSpec.{GridSpec}
use Rattle.sgm_report.specs.Areas.{IsArea}
use Rattle.sgm_cases.proofs.Grids.{bridged_there}
use Rattle.sgm_cases.proofs.regions.table_over.Goals as goal

pub tally_all-requires-clause-same : goal.tally_all-requires-clause-same
tally_all-requires-clause-same c =
    sym (ap (λ (g : Cells). g.spec) c.in_ok-grid.ensures ∙ bridged_there c.gridding.result.bridge c.args.measured.now)

pub tally_all-requires-clause-regions : goal.tally_all-requires-clause-regions
tally_all-requires-clause-regions c =
    subst (λ (s : GridSpec). All (IsArea s) c.args.regions.now) (tally_all-requires-clause-same c) c.requires
