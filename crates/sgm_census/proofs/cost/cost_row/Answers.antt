use Rattle.std.proofs.Common.{◌≡◌, ℕ, refl, ap, ◌∙◌}
use Rattle.sgm_base.specs.Disparities.{Disparities}
use Rattle.sgm_base.specs.Sides.{Sides}
use Rattle.sgm_census.specs.Costs.{single_cost}
use Rattle.sgm_census.specs.declared.rule.CostRule.TheVariants.{Plain}
use Rattle.sgm_census.proofs.CostRows.{census_cost-by, census_cost-row}
use Rattle.sgm_census.proofs.cost.cost_row.Goals as goal

pub returns-in-Plain-clause-each : goal.returns-in-Plain-clause-each
returns-in-Plain-clause-each c x d h k =
    let single : ℕ → ℕ = λ q. single_cost c.args.left.now c.args.right.now c.args.span.first q c.args.y d in
    c.single_row.ensures.each x d h k
    ∙ census_cost-by c.args.left.now c.args.right.now c.args.span.first x c.args.y d Plain single c.in-Plain.ensures h (λ q l. refl)

pub returns-in-Smoothed-clause-each : goal.returns-in-Smoothed-clause-each
returns-in-Smoothed-clause-each c x d h k =
    let count : c.span.inside.count ≡ c.args.span.count = ap (λ (s : Disparities). s.count) c.span.view_is in
    let width : c.smooth_row.inside.width ≡ c.args.left.now.width = ap (λ (s : Sides). s.width) c.smooth_row.view_is ∙ c.size.ensures.width in
    census_cost-row c.args.left.now c.args.right.now c.args.span.first x c.args.y d c.smooth_row.inside.width c.args.span.count c.span.inside.count c.single_row.new.into c.smooth_row-in-Smoothed.new.costs
    c.in-Smoothed.ensures width count h k c.single_row.ensures.each c.smooth_row-in-Smoothed.ensures.each
