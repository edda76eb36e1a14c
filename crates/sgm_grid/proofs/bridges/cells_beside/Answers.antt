use Rattle.std.proofs.Common.{sym, ap, ◌∙◌}
use Rattle.sgm_grid.specs.declared.bridges.Side.{Side}
use Rattle.sgm_grid.specs.declared.bridges.Side.TheVariants.{South}
use Rattle.sgm_grid.specs.declared.grid_spec.GridSpec.{GridSpec}
use Rattle.sgm_grid.proofs.Neighbours.{count_to, number_to}
use Rattle.sgm_grid.proofs.bridges.cells_beside.Goals as goal

pub returns-in-North-clause-count : goal.returns-in-North-clause-count
returns-in-North-clause-count c =
    ap (λ (side : Side). number_to side c.args.grid.now.spec c.args.col c.args.row) (sym c.in-North.is)
    ∙ sym (count_to c.args.side c.args.grid.now c.args.col c.args.row c.spec-spec.ensures.kept c.requires.col_in c.requires.row_in)

pub returns-in-South-clause-count : goal.returns-in-South-clause-count
returns-in-South-clause-count c =
    ap (λ (spec : GridSpec). number_to South spec c.args.col c.args.row) c.spec-spec.ensures.spec
    ∙ ap (λ (side : Side). number_to side c.args.grid.now.spec c.args.col c.args.row) (sym c.in-South.is)
    ∙ sym (count_to c.args.side c.args.grid.now c.args.col c.args.row c.spec-spec.ensures.kept c.requires.col_in c.requires.row_in)
