use Rattle.sgm_series.proofs.OnePlan.{plan_some, plan_one}
use Rattle.sgm_series.proofs.laws.one_plan.Goals as goal

pub returns-clause-some : goal.returns-clause-some
returns-clause-some g c = λ told words shelf. plan_some words (g.S.Shelf.held shelf) (g.met.S.Shelf.held_is_bytes shelf told)

pub returns-clause-only : goal.returns-clause-only
returns-clause-only g c = plan_one
