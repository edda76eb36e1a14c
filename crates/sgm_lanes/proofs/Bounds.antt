-- How great what a step gives can be.
use Rattle.std.proofs.Common.{ℕ, ◌+◌, ◌≤◌, List, length, slice_index, arith}
use Rattle.std.proofs.lemmas.Bool.Decides.{nat_tests}
use Rattle.sgm_energy.specs.Step.{carried}
use Rattle.sgm_lanes.specs.Steps.{StepsTo}

carried_le : (prev : ℕ → ℕ) (count p1 far low d : ℕ) → carried prev count p1 far low d ≤ low + far
unfolding carried
carried_le prev count p1 far low d = grind (arith, nat_tests)

pub step_le : (prev : List ℕ) (floor : ℕ) (cost : List ℕ) (p1 p2 d value : ℕ) → p2 ≤ 4000 → slice_index cost d ≤ 62 → StepsTo prev floor cost p1 p2 d value → value ≤ 4062
step_le prev floor cost p1 p2 d value penalty low steps =
    omega (arith, steps, carried_le (slice_index prev) (length prev) p1 p2 floor d)
