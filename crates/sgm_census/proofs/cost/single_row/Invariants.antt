use Rattle.std.proofs.Common.{◌≡◌, ℕ, ◌+◌, ◌*◌, ◌<◌, slice_index}
use Rattle.sgm_census.specs.Costs.{single_cost}
use Rattle.sgm_census.proofs.cost.single_row.Given as goal

abbrev pub invariant-loop-x : goal.invariant-loop-x
invariant-loop-x l =
    record {
      each : (z d : ℕ) → z < l.x → d < l.fn.span.count → slice_index l.into (z * l.fn.span.count + d) ≡ single_cost l.fn.left l.fn.right l.fn.span.first z l.fn.y d;
    }
