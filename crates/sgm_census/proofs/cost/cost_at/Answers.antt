use Rattle.std.proofs.Common.{◌≡◌, ℕ, ◌-◌, ◌+◌, cond, ltb, refl, ap, ◌∙◌, arith}
use Rattle.sgm_lanes.specs.Middles.{smoothed}
use Rattle.sgm_base.specs.Sides.{Sides}
use Rattle.sgm_census.specs.Costs.{single_cost}
use Rattle.sgm_census.specs.declared.rule.CostRule.TheVariants.{Plain, Smoothed}
use Rattle.sgm_census.proofs.CostRows.{census_cost-by, next_is}
use Rattle.sgm_census.proofs.cost.cost_at.Goals as goal

pub returns-in-Plain : goal.returns-in-Plain
returns-in-Plain c =
    let single : ℕ → ℕ = λ q. single_cost c.args.left.now c.args.right.now c.args.span.first q c.args.y c.args.d in
    c.single_at-here.ensures.cost
    ∙ census_cost-by c.args.left.now c.args.right.now c.args.span.first c.args.x c.args.y c.args.d Plain single c.in-Plain.ensures c.requires.column (λ q h. refl)

pub returns-in-Smoothed : goal.returns-in-Smoothed
returns-in-Smoothed c =
    let x = c.args.x in
    let width = c.args.left.now.width in
    let single : ℕ → ℕ = λ q. single_cost c.args.left.now c.args.right.now c.args.span.first q c.args.y c.args.d in
    let wide : c.width.inside.width ≡ width = ap (λ (s : Sides). s.width) c.width.view_is ∙ c.size.ensures.width in
    let next : c.min-next.result ≡ cond (ltb (x + 1) width) (x + 1) x = omega (arith, c.min-next.ensures, next_is width x c.requires.column) in
    ap (λ n. smoothed n c.single_at-here.result c.single_at-after.result) (c.single_at-before.ensures.cost ∙ ap single c.saturating_sub.ensures)
    ∙ ap (λ n. smoothed (single (x - 1)) n c.single_at-after.result) c.single_at-here.ensures.cost
    ∙ ap (λ n. smoothed (single (x - 1)) (single x) n) (c.single_at-after.ensures.cost ∙ ap single next)
    ∙ census_cost-by c.args.left.now c.args.right.now c.args.span.first x c.args.y c.args.d Smoothed single c.in-Smoothed.ensures c.requires.column (λ q h. refl)
