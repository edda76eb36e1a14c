use Rattle.std.proofs.Common.{◌∙◌}
use Rattle.sgm_grid.proofs.Placing.{held_none, held_some}
use Rattle.sgm_grid.proofs.bins.Bins.add.Goals as goal

pub returns-in-Some-clause-value : goal.returns-in-Some-clause-value
returns-in-Some-clause-value c =
    c.add_placed.ensures.value ∙ held_some c.args.self.now c.spec.result c.args.p c.in-Some.placed c.spec.ensures.value c.in-Some.ensures.value

pub returns-in_default-clause-value : goal.returns-in_default-clause-value
returns-in_default-clause-value c = held_none c.args.self.now c.spec.result c.args.p c.spec.ensures.value c.in_default.ensures.value
