use Rattle.std.proofs.Common.{◌≡◌, ℕ, ap, sym, ◌∙◌, option_map, map}
use Rattle.sgm_grid.specs.Bridges.{bridged}
use Rattle.sgm_grid.specs.Cells.{Cells}
use Rattle.sgm_grid.proofs.BridgeLaws.{without_bridges}
use Rattle.sgm_report.specs.Tallies.{tally_of}
use Rattle.sgm_ground.proofs.Grounds.{bridged_spec, regions_of_place}
use Rattle.sgm_ground.proofs.tallying.tally_ground.Goals as goal

pub returns-then-most-eq0-clause-grid : goal.returns-then-most-eq0-clause-grid
returns-then-most-eq0-clause-grid c =
    let measured = c.args.measured in
    let none : c.args.most ≡ 0 = c.if-most-eq0.true in
    sym (ap (λ (n : ℕ). bridged n measured) none ∙ without_bridges measured c.spec-spec.ensures.kept)

pub returns-then-most-eq0-clause-tallies : goal.returns-then-most-eq0-clause-tallies
returns-then-most-eq0-clause-tallies c =
    let measured = c.args.measured in
    let none : c.args.most ≡ 0 = c.if-most-eq0.true in
    let same : bridged c.args.most measured ≡ measured = ap (λ (n : ℕ). bridged n measured) none ∙ without_bridges measured c.spec-spec.ensures.kept in
    c.in_ok-tallies.ensures
    ∙ ap (λ (g : Cells). option_map (λ r. map (tally_of g measured) r.now) c.args.regions) (sym same)

pub tallies_over-requires-2-clause-same : goal.tallies_over-requires-2-clause-same
tallies_over-requires-2-clause-same c =
    sym (ap (λ (g : Cells). g.spec) c.in_ok-grid.ensures ∙ bridged_spec c.args.most c.args.measured)

pub tallies_over-requires-2-clause-regions : goal.tallies_over-requires-2-clause-regions
tallies_over-requires-2-clause-regions c =
    regions_of_place c.args.measured.spec c.in_ok-grid.grid.spec c.args.regions
    (ap (λ (g : Cells). g.spec) c.in_ok-grid.ensures ∙ bridged_spec c.args.most c.args.measured) c.requires.regions
