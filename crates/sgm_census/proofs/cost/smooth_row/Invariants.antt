use Rattle.std.proofs.Common.{◌≡◌, ℕ, ◌+◌, ◌-◌, ◌*◌, ◌<◌, ◌≤◌, length, slice_index}
use Rattle.std.specs.List.{All}
use Rattle.sgm_census.specs.Costs.{cost_by}
use Rattle.sgm_census.specs.declared.rule.CostRule.TheVariants.{Smoothed}
use Rattle.sgm_census.proofs.cost.smooth_row.Given as goal

abbrev pub invariant-loop-x : goal.invariant-loop-x
invariant-loop-x l =
    record {
      before_length : length l.before ≡ l.count;
      behind : (d : ℕ) → d < l.count → slice_index l.before d ≡ slice_index l.fn.costs ((l.x - 1) * l.count + d);
      before_small : All (λ c. c ≤ 62) l.before;
      small : All (λ c. c ≤ 62) l.costs;
      done : (z d : ℕ) → z < l.x → d < l.count → slice_index l.costs (z * l.count + d) ≡ cost_by Smoothed l.width (λ q. slice_index l.fn.costs (q * l.count + d)) z;
      left : (k : ℕ) → l.x * l.count ≤ k → slice_index l.costs k ≡ slice_index l.fn.costs k;
    }
