use Rattle.std.proofs.Common.{◌≡◌, ℕ, ◌+◌, ◌*◌, List, ◌++◌, length, get_or, take, drop, take_at, drop_at, length-append, refl, ap, ◌∙◌, arith}
use Rattle.std.proofs.lemmas.List.{with_items_is}
use Rattle.sgm_base.specs.Disparities.{Disparities}
use Rattle.sgm_base.specs.Sides.{Sides}
use Rattle.sgm_census.specs.Costs.{single_cost}
use Rattle.sgm_census.specs.declared.rule.CostRule.TheVariants.{Plain}
use Rattle.sgm_census.proofs.CostRows.{census_cost-by, census_cost-row}
use Rattle.sgm_census.proofs.cost.append_costs.Goals as goal

pub returns-in-Plain : goal.returns-in-Plain
returns-in-Plain c =
    let left = c.args.left.now in
    let right = c.args.right.now in
    let first = c.args.span.first in
    let y = c.args.y in
    let made = c.in_ok-append_single.ensures in
    record {
      row = made.row;
      added = made.added;
      whole = made.whole;
      each = λ x d h k. made.each x d h k ∙ census_cost-by left right first x y d Plain (λ q. single_cost left right first q y d) c.in-Plain.ensures h (λ q l. refl);
      low = made.low;
    }

pub returns-in-Smoothed : goal.returns-in-Smoothed
returns-in-Smoothed c =
    let left = c.args.left.now in
    let right = c.args.right.now in
    let first = c.args.span.first in
    let y = c.args.y in
    let old = c.args.into.now.items in
    let made = c.in_ok-append_single.ensures in
    let front = c.split_at_mut-row.result.0.now in
    let singles = c.split_at_mut-row.result.1.now in
    let costs = c.smooth_row-in-Smoothed.new.costs in
    let at = c.len-at.result in
    let old_length : length old ≡ at = omega (arith, c.len-at.ensures) in
    let items : c.deref_mut.result.now ≡ old ++ made.row = c.deref_mut.ensures.value ∙ made.added in
    let kept : front ≡ old = c.split_at_mut-row.ensures.front ∙ ap (λ (v : List ℕ). take at v) items ∙ take_at old made.row at old_length in
    let new : singles ≡ made.row = c.split_at_mut-row.ensures.back ∙ ap (λ (v : List ℕ). drop at v) items ∙ drop_at old made.row at old_length in
    let count : c.span.inside.count ≡ c.args.span.count = ap (λ (s : Disparities). s.count) c.span.view_is in
    let width : c.smooth_row.inside.width ≡ left.width = ap (λ (s : Sides). s.width) c.smooth_row.view_is ∙ c.size.ensures.width in
    let long : length costs ≡ length singles = c.smooth_row-in-Smoothed.auto.costs in
    record {
      row = costs;
      added = with_items_is c.append_single.new.into (front ++ costs) (omega (arith, length-append front costs, long, c.split_at_mut-row.ensures.front_len, c.split_at_mut-row.ensures.back_len, c.deref_mut.ensures.len)) ∙ ap (λ (v : List ℕ). v ++ costs) kept;
      whole = long ∙ ap length new ∙ made.whole;
      each = λ x d h k.
          census_cost-row left right first x y d c.smooth_row.inside.width c.args.span.count c.span.inside.count singles costs c.in-Smoothed.ensures width count h k
          (λ q e l m. ap (λ (v : List ℕ). get_or v (q * c.args.span.count + e) 0) new ∙ made.each q e l m) c.smooth_row-in-Smoothed.ensures.each;
      low = c.smooth_row-in-Smoothed.ensures.most;
    }
