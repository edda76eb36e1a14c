-- The problem that is matched, and the limits that its values keep.
use Rattle.std.specs.Prelude.{◌≡◌, ℕ, ◌+◌, ◌<◌, ◌≤◌, Bool, false}
use Rattle.sgm_base.specs.declared.limits.TheConstants.{MAX_PATH_VALUE, MAX_SUM}
use Rattle.sgm_base.specs.Values.{Values}
use Rattle.sgm_base.specs.Disparities.{Disparities}
use Rattle.sgm_energy.specs.declared.dir.Dir.{Dir}
use Rattle.sgm_energy.specs.Pens.{Penalties, guide_of}
use Rattle.sgm_energy.specs.Rays.{Pixel, Problem, IsInside, guided_problem}
use Rattle.sgm_energy.specs.Energies.{path_value, path_sum, sum_done}
use Rattle.sgm_census.specs.Windows.{WindowSides}
use Rattle.sgm_census.specs.declared.rule.CostRule.{CostRule}
use Rattle.sgm_census.specs.Codes.{Codes, codes_of}
use Rattle.sgm_census.specs.Costs.{census_cost}

-- the problem of matching two planes of codes, whose penalties may follow a guide
abbrev pub matching_problem : Codes → Codes → Disparities → Penalties → Values → Problem
matching_problem left right span penalties guide =
    guided_problem left.width left.height span.count
    (λ p d. census_cost left right span.first p.x p.y d) penalties guide

-- the problem of matching two planes by their codes, with the left plane, whose values go up to
-- maxval, as the guide
abbrev pub plane_problem : Values → Values → WindowSides → CostRule → Disparities → Penalties → ℕ
    → Problem
plane_problem left right window rule span penalties maxval =
    matching_problem (codes_of left window rule) (codes_of right window rule) span penalties
    (guide_of left maxval)

-- No path value in the image is above its limit and no sum above its own, whichever directions are
-- done. While one isn't done there is room for its path value.
pub record KeepsLimits (g : Problem) : Type 0 where
  pub path : (dir : Dir) (p : Pixel) (d : ℕ) → IsInside g p → d < g.count
      → path_value g dir p d ≤ MAX_PATH_VALUE
  pub whole : (p : Pixel) (d : ℕ) → IsInside g p → d < g.count → path_sum g p d ≤ MAX_SUM
  pub done : (done : Dir → Bool) (p : Pixel) (d : ℕ) → IsInside g p → d < g.count
      → sum_done done g p d ≤ MAX_SUM
  pub room : (done : Dir → Bool) (dir : Dir) (p : Pixel) (d : ℕ) → IsInside g p → d < g.count
      → done dir ≡ false
      → sum_done done g p d + MAX_PATH_VALUE ≤ MAX_SUM
