use Rattle.std.proofs.Common.{Bor, List, option_map, ap, sym, ◌∙◌}
use Rattle.sgm_grid.specs.Binning.{Binned, grid_in}
use Rattle.sgm_grid.specs.Cells.{Cells}
use Rattle.sgm_report.specs.Areas.{Area}
use Rattle.sgm_cases.proofs.Grids.{none_there, regions_there}
use Rattle.sgm_cases.proofs.regions.text_of.Goals as goal

pub table_over-requires : goal.table_over-requires
table_over-requires c =
    let asked = c.in-Some-Some in
    regions_there c.args.calib.now asked.spec c.in_ok-measured.measured.spec asked.regions c.grid.ensures.kept
    (sym asked.is-0 ∙ c.grid.ensures.value)
    (ap (option_map (λ (r : Bor (List Area)). r.now)) (sym asked.is-1) ∙ c.regions.ensures.value)
    (ap (λ (g : Cells). g.spec) c.in_ok-measured.ensures
    ∙ c.add_points.ensures
    ∙ ap (λ (b : Binned). (grid_in b).spec) c.in_ok-bins.ensures.value
    ∙ none_there c.gridding.result.keep asked.spec)
