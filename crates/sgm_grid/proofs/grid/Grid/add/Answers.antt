use Rattle.std.proofs.Common.{◌∙◌, ap}
use Rattle.sgm_grid.specs.Cells.{Cells}
use Rattle.sgm_grid.proofs.Placing.{added_none, added_some}
use Rattle.sgm_grid.proofs.grid.Grid.add.Goals as goal

pub returns-in-Some : goal.returns-in-Some
returns-in-Some c =
    c.add_placed.ensures ∙ added_some c.args.self.now c.self.inside.spec c.args.p c.in-Some.placed (ap (λ (g : Cells). g.spec) c.self.view_is) c.in-Some.ensures.value

pub returns-in_default : goal.returns-in_default
returns-in_default c =
    added_none c.args.self.now c.self.inside.spec c.args.p (ap (λ (g : Cells). g.spec) c.self.view_is) c.in_default.ensures.value
