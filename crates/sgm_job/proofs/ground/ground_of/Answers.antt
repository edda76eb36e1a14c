use Rattle.std.proofs.Common.{ap, sym, ◌∙◌}
use Rattle.sgm_grid.specs.Cells.{Cells}
use Rattle.sgm_ground.specs.Heights.{points_of}
use Rattle.sgm_ground.proofs.Grounds.{gridded_spec}
use Rattle.sgm_job.proofs.Grounds.{regions_inside}
use Rattle.sgm_job.proofs.ground.ground_of.Goals as goal

pub tally_ground-requires-clause-regions : goal.tally_ground-requires-clause-regions
tally_ground-requires-clause-regions g c =
    let points = points_of c.in-Some-Some.station c.span.result.first c.args.map.now in
    regions_inside c.args.calib.now c.in-Some-Some.spec c.in_ok-measured.measured.spec c.regions.result c.grid.ensures.kept
    (sym c.in-Some-Some.is-1 ∙ c.grid.ensures.value) c.regions.ensures.value
    (ap (λ (g : Cells). g.spec) c.in_ok-measured.ensures ∙ gridded_spec c.gridding-gridding.result.keep c.in-Some-Some.spec points)
