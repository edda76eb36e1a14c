-- The limits of the problem that is matched.
use Rattle.std.proofs.Common.{ℕ, ◌≤◌, arith}
use Rattle.sgm_base.specs.declared.limits.TheConstants.{MAX_COST, MAX_PENALTY}
use Rattle.sgm_base.specs.Disparities.{Disparities}
use Rattle.sgm_base.specs.Values.{Values}
use Rattle.sgm_energy.specs.Pens.{Penalties}
use Rattle.sgm_energy.specs.Rays.{Problem}
use Rattle.sgm_energy.specs.Energies.{IsWithin}
use Rattle.sgm_energy.proofs.PathLaws.{high, within_guided}
use Rattle.sgm_energy.proofs.SumLemmas.{done_room, done_bound, sum_bound}
use Rattle.sgm_census.specs.Codes.{Codes, IsCodes}
use Rattle.sgm_census.specs.Costs.{census_cost}
use Rattle.sgm_census.specs.Matching.{KeepsLimits, matching_problem}
use Rattle.sgm_census.proofs.CostRows.{census_cost-le, greatest-le}

pub census_cost-limited : (left right : Codes) (span : Disparities) (x y d : ℕ) → IsCodes left → census_cost left right span.first x y d ≤ MAX_COST
census_cost-limited left right span x y d k = omega (arith, census_cost-le left right span.first x y d k, greatest-le left.window k.window_in_range)

pub matching-within : (left right : Codes) (span : Disparities) (penalties : Penalties) (guide : Values) → IsCodes left → penalties.p1 ≤ penalties.p2 → penalties.p2 ≤ MAX_PENALTY
    → IsWithin (matching_problem left right span penalties guide) MAX_COST MAX_PENALTY
matching-within left right span penalties guide k ordered limited =
    let within =
    within_guided left.width left.height span.count MAX_COST (λ p d. census_cost left right span.first p.x p.y d) penalties guide ordered (λ p d _ _ _. census_cost-limited left right span p.x p.y d k) in
    record { costs = within.costs; ordered = within.ordered; penalties = λ q p. omega (arith, within.penalties q p) }

-- what is within the limits of costs and penalties keeps those of path values and sums
pub within-keeps : (g : Problem) → IsWithin g MAX_COST MAX_PENALTY → KeepsLimits g
within-keeps g w =
    record {
      path = λ dir p d i h. omega (arith, high g dir p d MAX_COST MAX_PENALTY h i w);
      whole = λ p d i h. omega (arith, sum_bound g p d MAX_COST MAX_PENALTY h i w);
      done = λ done p d i h. omega (arith, done_bound done g p d MAX_COST MAX_PENALTY h i w);
      room = λ done dir p d i h e. omega (arith, done_room done dir g p d MAX_COST MAX_PENALTY h i w e);
    }
