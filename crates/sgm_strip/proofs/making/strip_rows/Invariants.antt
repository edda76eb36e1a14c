use Rattle.std.proofs.Common.{◌≡◌, ◌+◌, ◌-◌, ◌≤◌, length}
use Rattle.std.specs.Prelude.{All}
use Rattle.sgm_base.specs.declared.limits.TheConstants.{MAX_COST}
use Rattle.sgm_energy.specs.declared.dir.Dir.TheVariants.{Right, Left}
use Rattle.sgm_energy.specs.Energies.{path_value}
use Rattle.sgm_strip.specs.Scenes.{problem_of, row_length}
use Rattle.sgm_strip.specs.Volumes.{HoldsRows}
use Rattle.sgm_strip.proofs.making.strip_rows.Given as goal

abbrev pub invariant-loop-y : goal.invariant-loop-y
invariant-loop-y l =
    record {
      spare : length l.spare.items ≡ row_length l.scene;
      low : All (λ c. c ≤ MAX_COST) l.costs.items;
      costs : HoldsRows (problem_of l.scene) l.top (l.y - l.top) (problem_of l.scene).cost l.costs.items;
      sums : HoldsRows (problem_of l.scene) l.top (l.y - l.top) (λ p d. path_value (problem_of l.scene) Right p d + path_value (problem_of l.scene) Left p d) l.sums.items;
    }
